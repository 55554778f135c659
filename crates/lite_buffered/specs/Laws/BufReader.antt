-- Laws of a `BufReader` as a reader.
use Rattle.std.specs.Prelude.{Bool, true, false, ◌≡◌, ◌<◌, ℕ, zero, suc, ◌+◌, ◌-◌, List, [], ◌∷◌, ◌++◌, length}
use Rattle.futures.specs.Task.{Lasting}
use Rattle.lite_io_base.specs.Armed.{ArmsRead, is_read_pending, last_is}
use Rattle.lite_io_base.specs.Laws.Armed.{last_join}
use Rattle.lite_buffered.specs.Uses.{◌∙◌, refl, sym, ap, arith, append_assoc, append-nil, length-append, Comparable}
use Rattle.lite_buffered.specs.Uses.{Ranks, Runs, ReadCounting, WriteMark, given_count-append, given_parts, AllGiven}
use Rattle.lite_buffered.specs.Uses.{ReadMark, bytes, given_count, MarkLaws, Shows, comparable_behind, no_wait_both}
use Rattle.lite_buffered.specs.Uses.{strip_marks-append, CalmReadLaws, NoPendingRead, SteadyReadLaws, strip_marks, Part}
use Rattle.lite_buffered.specs.Uses.{SeekFrom, Current, inl, inr, SeekKeeps}
use Rattle.lite_io_base.specs.Laws.Counting.{falls_held}
use Rattle.lite_io_base.specs.Laws.Marks.{bytes_given, given_count-bytes, given_all, given_both}
use Rattle.lite_buffered.specs.declared.buf_reader.BufReader.{BufReader}
use Rattle.lite_buffered.specs.BufReader.{AheadRegisters, Padded, PassesBuffer, Past, ThroughBuffer, bytes_ahead, ahead_ranks}
use Rattle.lite_buffered.specs.BufReader.{reader_capacity, KeepsOrder, reader_inner, SeekAnswer, SeeksOnce}
use Rattle.lite_buffered.specs.BufReader.{SeeksThrough, SeeksTwice}
use Rattle.lite_io_base.specs.Laws.Steady.{comparable_fronts, no_wait_bytes, no_wait_parts}

pub padded_same : (l : List ReadMark) → Padded l l
padded_same [] = Padded.none
padded_same (m ∷ l) = Padded.same m l l (padded_same l)

padded_both : (l k m n : List ReadMark) → Padded l k → Padded m n → Padded (l ++ m) (k ++ n)
padded_both _ _ m n Padded.none q = q
padded_both _ _ m n (Padded.same a l k p) q = Padded.same a _ _ (padded_both l k m n p q)
padded_both _ _ m n (Padded.more l k p) q = Padded.more _ _ (padded_both l k m n p q)

given_one : (a : ReadMark) (l k : List ReadMark) → given_count l ≡ given_count k → given_count (a ∷ l) ≡ given_count (a ∷ k)
given_one a l k e = rw (given_count-append (a ∷ []) l, e) (sym (given_count-append (a ∷ []) k))

padded_given : (l k : List ReadMark) → Padded l k → given_count l ≡ given_count k
padded_given _ _ Padded.none = refl
padded_given _ _ (Padded.same a l k p) = given_one a l k (padded_given l k p)
padded_given _ _ (Padded.more l k p) = padded_given l k p

padded_all_given : (l k : List ReadMark) → Padded l k → AllGiven k → AllGiven l
padded_all_given _ _ Padded.none g = tt
padded_all_given _ _ (Padded.same a l k p) g = (g.0, padded_all_given l k p g.1)
padded_all_given _ _ (Padded.more l k p) g = absurd g.0

-- `PassesBuffer` follows from its equation, if no byte is ahead when the capacity is 0.
pub passes_of : (n : ℕ) (p : List ℕ) (came out : List ReadMark) (q : List ℕ) → bytes p ++ came ≡ out ++ bytes q
    → (n ≡ 0 → (p ≡ []) × (q ≡ [])) → PassesBuffer n p came out q
passes_of zero p came out q e none =
    let both = none refl in
    (both.0, both.1, rw (← (rw (both.0, both.1, append-nil) at e)) (padded_same came))
passes_of (suc n) p came out q e none = e

-- With some capacity, `PassesBuffer` is its equation.
pub passes_some : (n : ℕ) (p : List ℕ) (came out : List ReadMark) (q : List ℕ) → 0 < n → PassesBuffer n p came out q
    → bytes p ++ came ≡ out ++ bytes q
passes_some zero p came out q some h = absurd (omega (arith, some))
passes_some (suc n) p came out q some h = h

pub passes_both : (n : ℕ) (p q r : List ℕ) (came out more next : List ReadMark) → PassesBuffer n p came out q
    → PassesBuffer n q more next r → PassesBuffer n p (came ++ more) (out ++ next) r
passes_both zero p q r came out more next a b = (a.0, b.1, padded_both came out more next a.2 b.2)
passes_both (suc n) p q r came out more next a b =
    rw (← append_assoc, a, append_assoc, b, append_assoc)

-- The bytes and errors passed on, and the bytes ahead after, are as many as those that came in and those ahead before.
passes_given : (n : ℕ) (p q : List ℕ) (came out : List ReadMark) → PassesBuffer n p came out q
    → given_count came + length p ≡ given_count out + length q
passes_given zero p q came out h = let e = padded_given came out h.2 in rw (h.0, h.1) (ap (λ k. k + 0) e)
passes_given (suc n) p q came out h =
    let e = ap given_count h in
    omega (arith, e, given_count-append (bytes p) came, given_count-append out (bytes q), given_count-bytes p, given_count-bytes q)

passes_all_given : (n : ℕ) (p q : List ℕ) (came out : List ReadMark) → PassesBuffer n p came out q → AllGiven out
    → AllGiven came
passes_all_given zero p q came out h g = padded_all_given came out h.2 g
passes_all_given (suc n) p q came out h g =
    (given_parts (bytes p) came (rw h (given_both out (bytes q) g (bytes_given q)))).1

front : (l m k n : List ReadMark) → l ++ m ≡ k ++ n → Comparable l k
front (a ∷ l) m (b ∷ k) n e = (cc e, front l m k n (cc e))
front l m k n e = tt

passes_front : (n : ℕ) (p q : List ℕ) (came out : List ReadMark) → PassesBuffer n p came out q
    → Comparable (bytes p) out
passes_front zero p q came out h = rw h.0 tt
passes_front (suc n) p q came out h = front _ came out _ h

-- With capacity 0, no byte is ahead.
pub ahead_none : {R : Type 0} (x : BufReader R) → reader_capacity x ≡ 0 → bytes_ahead x ≡ []
ahead_none x none = let nothing : x.end - x.pos ≡ 0 = omega arith in rw nothing

held_sized : (xs : List ℕ) (k n : ℕ) → length xs ≡ n → length (xs ++ k ∷ []) ≡ n + 1
held_sized xs k n e = omega (arith, length-append xs (k ∷ []), e)

module _ {R : Type 0} {reads : Runs ReadMark R} where
  pub through_laws : MarkLaws reads → MarkLaws (ThroughBuffer reads)
  through_laws laws = record {
    rests = λ x. record {
      came = [];
      ran = laws.rests x.inner;
      capacity = refl;
      passes = passes_of _ _ [] [] (bytes_ahead x) (append-nil (bytes _)) (λ none. (ahead_none x none, ahead_none x none));
    };
    follows = λ x y z l m a b.
        let next = rw a.capacity at b.passes in
        record {
          came = a.came ++ b.came;
          ran = laws.follows _ _ _ a.came b.came a.ran b.ran;
          capacity = b.capacity ∙ a.capacity;
          passes = passes_both _ _ _ _ a.came l b.came m a.passes next;
        };
  }

  pub through_shows : Shows (ThroughBuffer reads) bytes_ahead
  through_shows x y l h = passes_front _ _ _ h.came l h.passes

  module _ {r : Ranks R} (c : ReadCounting reads r) where
    pub through_counting : ReadCounting (ThroughBuffer reads) (ahead_ranks r)
    through_counting = record {
      sized = λ x. held_sized _ (length _) r.width (c.sized x.inner);
      counts_on = λ x y l k h. c.counts_on x.inner y.inner h.came k h.ran;
      firm_on = λ x y l k h. c.firm_on x.inner y.inner h.came k h.ran;
      falls = λ x y l k g h.
          let came = passes_all_given _ _ _ h.came l h.passes g in
          let less = rw (← given_all h.came came) at (c.falls _ _ h.came k came h.ran) in
          rw (← (given_all l g)) (falls_held _ _ (length _) (length _) _ _ less (passes_given _ _ _ h.came l h.passes));
      lowers = λ x y l k h.
          falls_held _ _ (length _) (length _) _ _ (c.lowers _ _ h.came k h.ran) (passes_given _ _ _ h.came l h.passes);
    }

pub past_laws : {R : Type 0} {writes : Runs WriteMark R} → MarkLaws writes → MarkLaws (Past writes)
past_laws laws = record {
  rests = λ x. (laws.rests x.inner, refl, refl);
  follows = λ x y z l m h k. (laws.follows x.inner y.inner z.inner l m h.0 k.0, k.1 ∙ h.1, k.2 ∙ h.2);
}

-- A `BufReader` with some capacity is steady over a steady reader, and calm over a calm one.

-- With some capacity, and without `Pending`s, the bytes ahead and the marks that came in are those passed on and the
-- bytes ahead after.
passes_apart : (n : ℕ) (p q : List ℕ) (came out : List ReadMark) → 0 < n → PassesBuffer n p came out q
    → strip_marks (bytes p) ++ strip_marks came ≡ strip_marks out ++ strip_marks (bytes q)
passes_apart n p q came out some h =
    rw (← strip_marks-append, passes_some n p came out q some h) (strip_marks-append out _)

padded_no_wait : (l k : List ReadMark) → Padded l k → NoPendingRead l → NoPendingRead k
padded_no_wait _ _ Padded.none h = tt
padded_no_wait _ _ (Padded.same ReadMark.pending l k p) h = absurd h
padded_no_wait _ _ (Padded.same a l k p) h = padded_no_wait l k p h
padded_no_wait _ _ (Padded.more l k p) h = padded_no_wait l k p h

passes_no_wait : (n : ℕ) (p q : List ℕ) (came out : List ReadMark) → PassesBuffer n p came out q → NoPendingRead came
    → NoPendingRead out
passes_no_wait zero p q came out h w = padded_no_wait came out h.2 w
passes_no_wait (suc n) p q came out h w =
    (no_wait_parts out (bytes q) (rw (← h) (no_wait_both (bytes p) came (no_wait_bytes p) w))).0

-- Two `BufReader`s with some capacity have equal bytes ahead, over readers that are alike. With capacity 0, a fill
-- looks like end of file, and so they would not be alike.
abbrev pub AheadAlike : {R : Type 0} → (R → R → Type 0) → BufReader R → BufReader R → Type 0
AheadAlike alike x y = (0 < reader_capacity x) × (0 < reader_capacity y) × (bytes_ahead x ≡ bytes_ahead y) × alike x.inner y.inner

module _ {R : Type 0} {reads : Runs ReadMark R} where
  module _ {ample : Runs ReadMark R} {needs_none : Type 0} {alike : R → R → Type 0}
      (s : SteadyReadLaws reads ample needs_none alike) where
    marks_agree : (x y x' y' : BufReader R) (l m : List ReadMark) → AheadAlike alike x y → ThroughBuffer ample x l x'
        → ThroughBuffer ample y m y'
        → Comparable (strip_marks l) (strip_marks m)
    marks_agree x y x' y' l m e h k =
        let came = s.steady x.inner y.inner x'.inner y'.inner h.came k.came e.3 h.ran k.ran in
        let first = passes_apart (reader_capacity x) (bytes_ahead x) (bytes_ahead x') h.came l e.0 h.passes in
        let second = passes_apart (reader_capacity y) (bytes_ahead y) (bytes_ahead y') k.came m e.1 k.passes in
        let both = comparable_behind (strip_marks (bytes (bytes_ahead y))) (strip_marks h.came) (strip_marks k.came) came in
        comparable_fronts (strip_marks l) (strip_marks (bytes (bytes_ahead x'))) (strip_marks m)
        (strip_marks (bytes (bytes_ahead y'))) (rw (← first, ← second, e.2) both)

    pub buf_reader_steady : SteadyReadLaws (ThroughBuffer reads) (ThroughBuffer ample) needs_none (AheadAlike alike)
    buf_reader_steady = record {
      laws = through_laws s.laws;
      steady = marks_agree;
      found = λ n x y l h. record {
        came = h.came;
        ran = s.found n _ _ _ h.ran;
        capacity = h.capacity;
        passes = h.passes;
      };
    }

  pub buf_reader_calm : {is_calm : R → Type 0} → CalmReadLaws reads is_calm
      → CalmReadLaws (ThroughBuffer reads) (λ (x : BufReader R). is_calm x.inner)
  buf_reader_calm c =
      record {
        no_pending = λ x y l k h. passes_no_wait _ _ _ h.came l h.passes (c.no_pending x.inner y.inner h.came k h.ran);
        calm_on = λ x y l k h. c.calm_on x.inner y.inner h.came k h.ran;
      }

-- Reads and writes of a `BufReader` keep their order.

module _ {R : Type 0} (reads : Runs ReadMark R) (writes : Runs WriteMark R) where
  pub in_order : (x : BufReader R) → KeepsOrder reads writes x
  in_order x [] y h =
      let still = passes_of _ _ [] [] (bytes_ahead x) (append-nil (bytes _))
      (λ none. (ahead_none x none, ahead_none x none)) in
      rw h ([], refl, tt, still)
  in_order x (Part.reading l ∷ ps) y (z, a, h) =
      let r = in_order z ps y h in
      let next = rw a.capacity at r.3 in (
        Part.reading a.came ∷ r.0,
        (z.inner, a.ran, r.1),
        r.2,
        passes_both _ _ _ _ a.came l _ _ a.passes next,
      )
  in_order x (Part.writing l ∷ ps) y (z, a, h) =
      let r = in_order z ps y h in
      let next = rw a.1 at r.3 in
      (Part.writing l ∷ r.0, (z.inner, a.0, r.1), (refl, r.2), rw (← a.2) next)

-- Laws of seeks of a `BufReader`.

module _ {R : Type 0} (seeks : R → SeekFrom → SeekAnswer → R → Type 0) (P : R → Type 0)
    (keeps : SeekKeeps seeks P) where
  once : (x y : BufReader R) (to : SeekFrom) (r : SeekAnswer) → P (reader_inner x) → SeeksOnce seeks x to r y
      → P (reader_inner y)
  once x y to r p h = keeps x.inner y.inner to r p h.sought

  twice : (x y : BufReader R) (first second : SeekFrom) (r : SeekAnswer) → P (reader_inner x)
      → SeeksTwice seeks x first second r y → P (reader_inner y)
  twice x y first second r p (inl (n, m, a, b)) =
      keeps m.inner y.inner second r (keeps x.inner m.inner first _ p a.sought) b.sought
  twice x y first second r p (inr (a, refused)) = once x y first r p a

  -- What each seek of the inner reader keeps true of it, each seek of the `BufReader` keeps true of its inner reader.
  pub seeks_keep : SeekKeeps (SeeksThrough seeks) (λ x. P (reader_inner x))
  seeks_keep x y (Current offset) r p (inl h) = once x y _ r p h.1
  seeks_keep x y (Current offset) r p (inr h) = twice x y _ _ r p h.1
  seeks_keep x y a r p h = once x y a r p h

-- What is armed after a `Pending`.

bytes_last : (b : Bool) (xs : List ℕ) → last_is is_read_pending b (bytes xs) ≡ true → b ≡ true
bytes_last b [] e = e
bytes_last b (x ∷ xs) e = let none = bytes_last false xs e in cc none

last_from : (b c : Bool) (l : List ReadMark) → (b ≡ true → c ≡ true) → last_is is_read_pending b l ≡ true
    → last_is is_read_pending c l ≡ true
last_from b c [] k e = k e
last_from b c (m ∷ l) k e = e

padded_last : (b : Bool) (l k : List ReadMark) → Padded l k → last_is is_read_pending b k ≡ true
    → last_is is_read_pending b l ≡ true
padded_last b l k Padded.none e = e
padded_last b l k (Padded.same m l' k' h) e = padded_last (is_read_pending m) l' k' h e
padded_last b l k (Padded.more l' k' h) e = last_from false b l (λ n. cc n) (padded_last false l k' h e)

-- If no byte is ahead and the last mark passed on is a `Pending`, so is the last mark of the inner reader.
passes_last : (n : ℕ) (before : List ℕ) (came out : List ReadMark) → PassesBuffer n before came out []
    → last_is is_read_pending false out ≡ true → last_is is_read_pending false came ≡ true
passes_last zero before came out h e = padded_last false came out h.2 e
passes_last (suc n) before came out h e =
    let own = last_is is_read_pending false (bytes before) in
    let all : last_is is_read_pending false (bytes before ++ came) ≡ true = rw (h, append-nil out) e in
    last_from own false came (bytes_last false before) (sym (last_join is_read_pending false (bytes before) came) ∙ all)

-- A `BufReader` is armed if its inner reader is.
pub buf_reader_arms : {R : Type 0} {reads : Runs ReadMark R} {registers : R → Lasting → Type 0}
    → ArmsRead reads registers → ArmsRead (ThroughBuffer reads) (AheadRegisters registers)
buf_reader_arms a =
    record {
      at = λ x y l e h none.
          a.at x.inner y.inner h.came
          (passes_last (reader_capacity x) (bytes_ahead x) h.came l (rw none at h.passes) e) h.ran;
    }
