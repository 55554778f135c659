-- Laws of a reader that is specified by a step.
use Rattle.std.specs.Prelude.{◌<◌, ◌≤◌, ℕ, List, [], ◌∷◌, ◌≡◌, zero, suc, ◌++◌, length, map}
use Rattle.std.proofs.Common.{◌+◌, min, slice_set, length-drop, length-take-le}
use Rattle.lite_io_base.specs.Counting.{Falls, ReadCounting}
use Rattle.lite_io_base.specs.Laws.Runs.{steps_laws}
use Rattle.lite_io_base.specs.Runs.{Steps}
use Rattle.lite_theorems.specs.Uses.{arith, take, drop, refl, sym, ap, subst, take-append-drop, bytes, length-append, ◌∙◌}
use Rattle.lite_theorems.specs.Uses.{map-append, MarkLaws, ReadMark, Runs, WriteMark}
use Rattle.lite_io_base.specs.Laws.Counting.{number_counting, falls_at_most, falls_of_below}
use Rattle.lite_theorems.specs.Readers.{MarksLower, FrontLaws, FrontStep, ReadsLeft, HandsOn, each_byte}
use Rattle.std.proofs.lemmas.Grind.{common_steps}
use Rattle.lite_base.specs.Laws.Ranks.{Below-one, at_most_one}
use Rattle.lite_base.specs.Ranks.{Ranks, number_ranks, ranks_of}
use Rattle.lite_io_base.specs.Marks.{AllGiven, given_count, moved_marks}
use Rattle.std.proofs.Math.Seq.{take-append_seam}
use Rattle.std.proofs.lemmas.List.{length-map}

-- `step` says which value one mark may leave.
module _ {S : Type 0} (step : S → ReadMark → S → Type 0) where
  pub reader_by_steps : MarkLaws (Steps step)
  reader_by_steps = steps_laws step

falls_more : (g m n k : ℕ) → Falls g (m ∷ []) (n ∷ []) → n < k → Falls (g + 1) (m ∷ []) (k ∷ [])
falls_more g m n k h less = falls_of_below (g + 1) _ _ (Below-one (falls_at_most g _ _ h) less)

module _ {S : Type 0} {step : S → ReadMark → S → Type 0} {number : S → ℕ} where
  falls_from : MarksLower step number → (x y : S) (n : ℕ) (l : List ReadMark) → number x ≤ n → Steps step x l y
      → Falls (given_count l) (number y ∷ []) (n ∷ [])
  falls_from low x y n [] least h = at_most_one (number y) n (rw h least)
  falls_from low x y n (ReadMark.pending ∷ l) least h =
      falls_from low h.0 y n l (omega (arith, low.by_pending x h.0 h.1, least)) h.2
  falls_from low x y n (ReadMark.end ∷ l) least h =
      falls_from low h.0 y n l (omega (arith, low.by_end x h.0 h.1, least)) h.2
  falls_from low x y n (ReadMark.byte b ∷ l) least h =
      falls_more (given_count l) (number y) (number h.0) n (falls_from low h.0 y (number h.0) l (omega arith) h.2)
      (omega (arith, low.by_byte x h.0 b h.1, least))
  falls_from low x y n (ReadMark.fault kind ∷ l) least h =
      falls_more (given_count l) (number y) (number h.0) n (falls_from low h.0 y (number h.0) l (omega arith) h.2)
      (omega (arith, low.by_fault x h.0 kind h.1, least))

  -- The number is a rank.
  pub reader_counting : MarksLower step number → ReadCounting (Steps step) (number_ranks number)
  reader_counting low = number_counting (λ x y l. falls_from low x y (number x) l (omega arith))

-- Laws of a reader that is specified by a step and reads many bytes at once.

module _ {S : Type 0} {step : S → ReadMark → S → Type 0} {left : S → List ℕ} {further : S → ℕ → S}
    (reads : ReadsLeft step left further) where
  pub reads_bytes : (x : S) (xs rest : List ℕ) → left x ≡ xs ++ rest → Steps step x (bytes xs) (further x (length xs))
  reads_bytes x [] rest e = reads.none x
  reads_bytes x (b ∷ xs) rest e =
      let first = reads.by_byte x b (xs ++ rest) e in (
        further x 1,
        first.1,
        subst (Steps step (further x 1) (bytes xs)) (reads.more x (length xs) ∙ ap (further x) (omega arith))
            (reads_bytes (further x 1) xs rest first.0),
      )

  reads_front : (x : S) (n : ℕ) → n ≤ length (left x) → Steps step x (bytes (take n (left x))) (further x n)
  reads_front x n fits =
      rw (length-take-le n (left x) fits) at
      (reads_bytes x (take n (left x)) (drop n (left x)) (sym (take-append-drop n (left x))))

  reads_at : (x : S) (xs room : List ℕ) (n : ℕ) → left x ≡ xs → n ≡ min (length xs) (length room)
      → Steps step x (moved_marks room (take n xs)) (further x n)
  reads_at x [] (r ∷ room) n e is = let none : n ≡ 0 = omega arith in rw none (x, reads.by_end x e, reads.none x)
  reads_at x (b ∷ xs) (r ∷ room) zero e is = absurd (omega arith)
  reads_at x (b ∷ xs) (r ∷ room) (suc n) e is =
      subst (λ l. Steps step x (bytes (take (suc n) l)) (further x (suc n))) e
      (reads_front x (suc n) (omega (arith, ap length e)))
  reads_at x _ [] n e is = let none : n ≡ 0 = omega arith in rw none (reads.none x)

  -- A read that copies as many bytes as are left, or as the buffer has room for.
  pub reads_into : (x : S) (buf : List ℕ) (n : ℕ) → n ≡ min (length (left x)) (length buf)
      → take n buf ≡ take n (left x)
      → Steps step x (moved_marks buf (take n buf)) (further x n)
  reads_into x buf n few same = rw same (reads_at x (left x) buf n refl few)

-- The number of the bytes that are to come falls with each byte.
pub front_lowers : {S : Type 0} (left : S → List ℕ) (on : S → ℕ → S)
    → MarksLower (FrontStep left on) (λ x. length (left x))
front_lowers left on =
    record {
      by_byte = λ x y b h. omega (arith, ap length h.0);
      by_fault = λ x y kind h. absurd h;
      by_pending = λ x y h. absurd h;
      by_end = λ x y h. rw h.1 (omega arith);
    }

module _ {S : Type 0} {left : S → List ℕ} {on : S → ℕ → S} where
  front_reads : FrontLaws left on → ReadsLeft (FrontStep left on) left on
  front_reads laws =
      record {
        none = laws.none;
        more = λ x n. laws.more x 1 n ∙ ap (on x) (omega arith);
        by_byte = λ x b rest e.
            let after : left (on x 1) ≡ rest = laws.rest x 1 ∙ ap (drop 1) e in
            (after, (e ∙ ap (λ l. b ∷ l) (sym after), refl));
        by_end = λ x e. (e, refl);
      }

  -- A read of the first bytes that are to come, as many as there are and as the buffer has room for.
  pub front_read : (x y : S) (buf : List ℕ) (n : ℕ) → FrontLaws left on → n ≡ min (length (left x)) (length buf)
      → take n buf ≡ take n (left x) → y ≡ on x n
      → Steps (FrontStep left on) x (moved_marks buf (take n buf)) y
  front_read x y buf n laws few same is = rw is (reads_into (front_reads laws) x buf n few same)

-- Such a read, with what a buffer has after its first bytes were stored.
pub ruleset front_rules = (front_read, common_steps)

-- A read of one byte, which is stored at the front of the buffer.
pub reads_one : {S : Type 0} (step : S → ReadMark → S → Type 0) (x y : S) (b : ℕ) (buf : List ℕ) → 0 < length buf
    → step x (ReadMark.byte b) y
    → Steps step x (moved_marks (slice_set buf 0 b) (take 1 (slice_set buf 0 b))) y
reads_one step x y b [] some h = absurd (omega (arith, some))
reads_one step x y b (r ∷ buf) some h = (y, h, refl)

-- Laws of a reader over another reader, which changes the bytes and passes on everything else.

module _ {M R : Type 0} {part : M → R} {f : ℕ → ℕ} {reads : Runs ReadMark R} where
  pub reader_handing : MarkLaws reads → MarkLaws (HandsOn part f reads)
  reader_handing laws =
      record {
        rests = λ x. record { ins = []; came = laws.rests (part x); out = refl };
        follows = λ x y z l m h k. record {
          ins = h.ins ++ k.ins;
          came = laws.follows (part x) (part y) (part z) h.ins k.ins h.came k.came;
          out = rw (h.out, k.out, map-append) refl;
        };
      }

given_made : (f : ℕ → ℕ) (l : List ReadMark) → given_count (map (each_byte f) l) ≡ given_count l
given_made f [] = refl
given_made f (ReadMark.pending ∷ l) = given_made f l
given_made f (ReadMark.end ∷ l) = given_made f l
given_made f (_ ∷ l) = rw (given_made f l)

all_given : (f : ℕ → ℕ) (l : List ReadMark) → AllGiven (map (each_byte f) l) → AllGiven l
all_given f [] h = tt
all_given f (ReadMark.pending ∷ l) h = absurd h.0
all_given f (ReadMark.end ∷ l) h = absurd h.0
all_given f (_ ∷ l) h = (tt, all_given f l h.1)

module _ {M R : Type 0} {part : M → R} {f : ℕ → ℕ} {reads : Runs ReadMark R} {r : Ranks R} where
  -- Its rank is that of the inner reader.
  pub handing_counting : ReadCounting reads r → ReadCounting (HandsOn part f reads) (ranks_of part r)
  handing_counting c =
      record {
        sized = λ x. c.sized (part x);
        counts_on = λ x y l k h. c.counts_on (part x) (part y) h.ins k h.came;
        firm_on = λ x y l k h. c.firm_on (part x) (part y) h.ins k h.came;
        falls = λ x y l k g h.
            let low = c.falls (part x) (part y) h.ins k (all_given f h.ins (subst AllGiven h.out g)) h.came in
            subst (λ n. Falls n (r.rank (part y)) (r.rank (part x)))
            (sym (ap length h.out ∙ length-map h.ins (each_byte f))) low;
        lowers = λ x y l k h.
            subst (λ n. Falls n (r.rank (part y)) (r.rank (part x))) (sym (ap given_count h.out ∙ given_made f h.ins))
            (c.lowers (part x) (part y) h.ins k h.came);
      }

made_bytes : (f : ℕ → ℕ) (xs : List ℕ) → bytes (map f xs) ≡ map (each_byte f) (bytes xs)
made_bytes f [] = refl
made_bytes f (x ∷ xs) = rw (made_bytes f xs)

-- The marks of a read whose bytes were changed in place, whatever else is in the buffer.
pub handed_moved : (f : ℕ → ℕ) (xs room other : List ℕ) → length other ≡ length room
    → moved_marks other (map f xs) ≡ map (each_byte f) (moved_marks room xs)
handed_moved f (x ∷ xs) room other same = made_bytes f (x ∷ xs)
handed_moved f [] [] [] same = refl
handed_moved f [] (r ∷ room) (o ∷ other) same = refl
handed_moved f [] _ _ same = absurd (omega (arith, same))

-- A read of the inner reader, after which the bytes that it read were changed in place.
module _ {M R : Type 0} (part : M → R) (f : ℕ → ℕ) (reads : Runs ReadMark R) (x y : M) (buf out : List ℕ) (n : ℕ) where
  pub hands_read : reads (part x) (moved_marks buf (take n buf)) (part y) → n ≤ length buf → out ≡ map f (take n buf)
      → HandsOn part f reads x (moved_marks (out ++ drop n buf) (take n (out ++ drop n buf))) y
  hands_read ran fits is =
      let other = out ++ drop n buf in
      let len : length out ≡ n = ap length is ∙ length-map (take n buf) f ∙ length-take-le n buf fits in
      let room : length other ≡ length buf =
      omega (arith, length-append out (drop n buf), length-drop n buf, len, fits) in
      let taken : take n other ≡ map f (take n buf) =
      ap (λ k. take k other) (sym len) ∙ take-append_seam out (drop n buf) ∙ is in
      record {
        ins = moved_marks buf (take n buf);
        came = ran;
        out = rw taken (handed_moved f (take n buf) buf other room);
      }

-- Laws of a writer that is specified by a step.

-- `step` says which value one mark may leave.
module _ {S : Type 0} (step : S → WriteMark → S → Type 0) where
  pub writer_by_steps : MarkLaws (Steps step)
  writer_by_steps = steps_laws step
