-- Laws of `bytes`.
use Rattle.std.specs.Prelude.{⊤, ◌≡◌, ℕ, Bool, ◌+◌, List, [], ◌∷◌, ◌++◌, length, Some, None, Result, ◌⊎◌, Option, Ok, Err}
use Rattle.lite_read.specs.Uses.{suc, refl, ap, subst, add-one, Error, Ready, Pending, Answer, items, Below, Lowers}
use Rattle.lite_read.specs.Uses.{Ranks, ranks_of, RunLaws, StreamLaws, laws_of, NoHint, Runs, ReadCounting, Falls}
use Rattle.lite_read.specs.Uses.{ReadMark, given_count, MarkLaws, CalmReadLaws, SteadyReadLaws, ◌∙◌, inl, inr, sym}
use Rattle.lite_read.specs.Uses.{error_kind, ErrorKind, Interrupted, OptionBy, Sameness, Comparable, ComparableBy}
use Rattle.lite_read.specs.Uses.{strip, SteadyLawsBy, strip_marks, idle_join, SameByKind}
use Rattle.lite_base.specs.Laws.Calm.{calm_part}
use Rattle.lite_base.specs.Laws.Ranks.{Lowers-below}
use Rattle.lite_base.specs.Laws.StreamLaws.{same_hint}
use Rattle.lite_base.specs.Ranks.{Counting}
use Rattle.lite_io_base.specs.Laws.Lent.{counting_part}
use Rattle.lite_io_base.specs.Marks.{AllGiven}
use Rattle.lite_read.specs.Bytes.{GivesBytes, GivesEach, interrupted_after, interrupted_by}
use Rattle.lite_read.specs.declared.bytes.Bytes.{Bytes}
use Rattle.lite_base.specs.Laws.Alike.{comparable_nil}

tells_join : (i j : List ReadMark) (l m : List (Answer (Result ℕ Error))) → GivesEach i l → GivesEach j m
    → GivesEach (i ++ j) (l ++ m)
tells_join [] j [] m h k = k
tells_join (x ∷ i) j (a ∷ l) m h k = (h.0, tells_join i j l m h.1 k)
tells_join _ j _ m h k = absurd h

-- Whether the last `Pending` was an interruption after two lists of marks, and of the poll results that they become.
interrupted_join : (before : Bool) (i j : List ReadMark) (l m : List (Answer (Result ℕ Error))) → GivesEach i l
    → interrupted_after before (i ++ j) (l ++ m) ≡ interrupted_after (interrupted_after before i l) j m
interrupted_join before [] j [] m h = refl
interrupted_join before (x ∷ i) j (a ∷ l) m h = interrupted_join (interrupted_by x a before) i j l m h.1
interrupted_join before _ j _ m h = absurd h

-- A fall by at least one byte or error lowers the rank.
one_below : (n : ℕ) (xs ys : List ℕ) → Falls (n + 1) xs ys → Below xs ys
one_below n xs ys h = rw (add-one n) at h

-- The poll results of `bytes` lower a rank as its reader's marks do.
tells_lower : (i : List ReadMark) (l : List (Answer (Result ℕ Error))) (xs ys : List ℕ) → GivesEach i l
    → Falls (given_count i) xs ys → Lowers l xs ys
tells_lower [] [] xs ys h f = f
tells_lower (ReadMark.byte b ∷ i) (Ready (Some r) ∷ l) xs ys h f = one_below _ xs ys f
tells_lower (ReadMark.fault k ∷ i) (Pending ∷ l) xs ys h f = Lowers-below l xs ys (one_below _ xs ys f)
tells_lower (ReadMark.fault k ∷ i) (Ready (Some r) ∷ l) xs ys h f = one_below _ xs ys f
tells_lower (ReadMark.pending ∷ i) (Pending ∷ l) xs ys h f = tells_lower i l xs ys h.1 f
tells_lower (ReadMark.end ∷ i) (Ready None ∷ l) xs ys h f = tells_lower i l xs ys h.1 f
tells_lower [] (a ∷ l) xs ys h f = absurd h
tells_lower (x ∷ i) [] xs ys h f = absurd h
tells_lower _ _ xs ys h f = absurd h.0

-- The marks behind a list of items are all bytes and errors, one for each item.
tells_items : (i : List ReadMark) (l : List (Result ℕ Error)) → GivesEach i (items l) → AllGiven i
    × (length i ≡ length l)
tells_items [] [] h = (tt, refl)
tells_items [] (r ∷ l) h = absurd h
tells_items (x ∷ i) [] h = absurd h
tells_items (ReadMark.pending ∷ i) (r ∷ l) h = absurd h.0
tells_items (ReadMark.end ∷ i) (r ∷ l) h = absurd h.0
tells_items (_ ∷ i) (r ∷ l) h = let e = tells_items i l h.1 in ((tt, e.0), ap suc e.1)

module _ {R : Type 0} {reads : Runs ReadMark R} where
  module _ (laws : MarkLaws reads) where
    pub bytes_runs : RunLaws (GivesBytes reads)
    bytes_runs = record {
      rests = λ x. record { marks = []; came = laws.rests x.inner; told = tt; noted = refl; idle = λ e. refl };
      stays = λ x y h. h.idle refl;
      follows = λ x y z l m h k. record {
        marks = h.marks ++ k.marks;
        came = laws.follows _ _ _ h.marks k.marks h.came k.came;
        told = tells_join h.marks k.marks l m h.told k.told;
        noted = k.noted ∙ ap (λ b. interrupted_after b k.marks m) h.noted
            ∙ sym (interrupted_join x.interrupted h.marks k.marks l m h.told);
        idle = idle_join x y z l m h.idle k.idle;
      };
    }

    pub bytes_laws : StreamLaws (λ _. ⊤) (GivesBytes reads) NoHint
    bytes_laws = laws_of bytes_runs (λ x y hint l e h. same_hint hint (0, None) l e tt) (λ x y l c h. tt)

  pub bytes_counting : {r : Ranks R} → ReadCounting reads r
      → Counting (GivesBytes reads) (ranks_of (λ (b : Bytes R). b.inner) r)
  bytes_counting {r} c =
      record {
        sized = λ x. c.sized x.inner;
        counts_on = λ x y l k h. c.counts_on x.inner y.inner h.marks k h.came;
        firm_on = λ x y l k h. c.firm_on x.inner y.inner h.marks k h.came;
        falls = λ x y a more k h.
            let e = tells_items h.marks (a ∷ more) h.told in
            subst (λ n. Falls n (r.rank y.inner) (r.rank x.inner)) e.1 (c.falls x.inner y.inner h.marks k e.0 h.came);
        lowers = λ x y l k h. tells_lower h.marks l _ _ h.told (c.lowers x.inner y.inner h.marks k h.came);
      }

  -- A `bytes` runs as its reader does: the laws of the reader hold of it.
  pub inner_laws : MarkLaws reads → MarkLaws (λ (x : Bytes R) l (y : Bytes R). reads x.inner l y.inner)
  inner_laws laws = record { rests = λ x. laws.rests x.inner; follows = λ x y z. laws.follows x.inner y.inner z.inner }

  pub inner_steady : {ample : Runs ReadMark R} {needs_none : Type 0} {alike : R → R → Type 0}
      → SteadyReadLaws reads ample needs_none alike
      → SteadyReadLaws (λ (x : Bytes R) l (y : Bytes R). reads x.inner l y.inner)
      (λ x l y. ample x.inner l y.inner) needs_none (λ x y. alike x.inner y.inner)
  inner_steady s =
      record {
        laws = record { rests = λ x. s.laws.rests x.inner; follows = λ x y z. s.laws.follows _ _ _ };
        steady = λ x y x' y'. s.steady x.inner y.inner x'.inner y'.inner;
        found = λ n x y. s.found n x.inner y.inner;
      }

  pub inner_calm : {is_calm : R → Type 0} → CalmReadLaws reads is_calm
      → CalmReadLaws (λ (x : Bytes R) l (y : Bytes R). reads x.inner l y.inner) (λ x. is_calm x.inner)
  inner_calm = calm_part (λ x. x.inner) (λ x y l h. h)

  pub inner_counting : {r : Ranks R} → ReadCounting reads r
      → ReadCounting (λ (x : Bytes R) l (y : Bytes R). reads x.inner l y.inner) (ranks_of (λ (b : Bytes R). b.inner) r)
  inner_counting = counting_part (λ x. x.inner) (λ x y l h. h)

-- `bytes` is steady over a steady reader: its results do not depend on when the reader was pending.

-- What a poll result of `bytes` holds if it is ready: a byte, an error, or `None` at the end.
abbrev ByteItem : Type 0
ByteItem = Option (Result ℕ Error)

-- The list begins with an error of this kind, which is not `Interrupted`, and `rest` is true of the items after it.
record FailsHere (kind : ErrorKind) (rest : List ByteItem → Type 0) (l : List ByteItem) : Type 0 where
  pub error : Error
  pub is : error_kind error ≡ kind
  pub heard : kind ≡ Interrupted → ⊥
  pub after : List ByteItem
  pub cut : l ≡ Some (Err error) ∷ after
  pub more : rest after

-- The results of `bytes` over marks without `Pending`s: each mark is one result, except that an interruption, which is
-- `Pending`, is none.
abbrev TaleAnswers : List ReadMark → List ByteItem → Type 0
TaleAnswers [] l = l ≡ []
TaleAnswers (ReadMark.byte b ∷ ms) l = (after : List ByteItem) × (l ≡ Some (Ok b) ∷ after) × TaleAnswers ms after
TaleAnswers (ReadMark.pending ∷ ms) l = ⊥
TaleAnswers (ReadMark.fault kind ∷ ms) l = ((kind ≡ Interrupted) × TaleAnswers ms l) ⊎ FailsHere kind (TaleAnswers ms) l
TaleAnswers (ReadMark.end ∷ ms) l = (after : List ByteItem) × (l ≡ None ∷ after) × TaleAnswers ms after

said : (i : List ReadMark) (l : List (Answer (Result ℕ Error))) → GivesEach i l → TaleAnswers (strip_marks i) (strip l)
said [] [] h = refl
said (ReadMark.byte b ∷ i) (Ready (Some (Ok x)) ∷ l) h = rw h.0 (strip l, refl, said i l h.1)
said (ReadMark.pending ∷ i) (Pending ∷ l) h = said i l h.1
said (ReadMark.fault kind ∷ i) (Pending ∷ l) h = inl (h.0, said i l h.1)
said (ReadMark.fault kind ∷ i) (Ready (Some (Err e)) ∷ l) h =
    inr (record { error = e; is = h.0.0; heard = h.0.1; after = strip l; cut = refl; more = (said i l h.1) })
said (ReadMark.end ∷ i) (Ready None ∷ l) h = (strip l, refl, said i l h.1)
said [] (a ∷ l) h = absurd h
said (m ∷ i) [] h = absurd h
said _ _ h = absurd h.0

-- One of two lists of results of `bytes` is a prefix of the other, with errors compared by their kinds.
abbrev SameBytes : List ByteItem → List ByteItem → Type 0
SameBytes = ComparableBy (OptionBy SameByKind)

-- If both lists of marks begin with one error, the results are the same when those of the rest are.
module _ (kind : ErrorKind) (i j : List ReadMark) (l m : List ByteItem) where
  both_fail : TaleAnswers (ReadMark.fault kind ∷ i) l → TaleAnswers (ReadMark.fault kind ∷ j) m
      → ((l m : List ByteItem) → TaleAnswers i l → TaleAnswers j m → SameBytes l m) → SameBytes l m
  both_fail (inl h) (inl k) rest = rest l m h.1 k.1
  both_fail (inl h) (inr k) rest = absurd (k.heard h.0)
  both_fail (inr h) (inl k) rest = absurd (h.heard k.0)
  both_fail (inr h) (inr k) rest = rw (h.cut, k.cut) (h.is ∙ sym k.is, rest h.after k.after h.more k.more)

-- If one of two lists of marks is a prefix of the other, their results are the same as far as both go.
say_same : (i j : List ReadMark) (l m : List ByteItem) → TaleAnswers i l → TaleAnswers j m → Comparable i j
    → SameBytes l m
say_same [] j l m h k c = rw h tt
say_same (a ∷ i) [] l m h k c = rw k (comparable_nil (OptionBy SameByKind) l)
say_same (ReadMark.byte b ∷ i) (n ∷ j) l m h k c =
    let other = subst (λ z. TaleAnswers (z ∷ j) m) (sym c.0) k in
    rw (h.1, other.1) (refl, say_same i j h.0 other.0 h.2 other.2 c.1)
say_same (ReadMark.pending ∷ i) (n ∷ j) l m h k c = absurd h
say_same (ReadMark.end ∷ i) (n ∷ j) l m h k c =
    let other = subst (λ z. TaleAnswers (z ∷ j) m) (sym c.0) k in
    rw (h.1, other.1) (tt, say_same i j h.0 other.0 h.2 other.2 c.1)
say_same (ReadMark.fault kind ∷ i) (n ∷ j) l m h k c =
    both_fail kind i j l m h (subst (λ z. TaleAnswers (z ∷ j) m) (sym c.0) k) (λ l m h k. say_same i j l m h k c.1)

module _ {R : Type 0} {reads ample : Runs ReadMark R} {needs_none : Type 0} {alike : R → R → Type 0} where
  pub bytes_steady : SteadyReadLaws reads ample needs_none alike
      → SteadyLawsBy (Sameness.by SameByKind) (GivesBytes reads) (GivesBytes ample) needs_none
      (λ (x y : Bytes R). alike x.inner y.inner)
  bytes_steady s =
      record {
        laws = bytes_runs s.laws;
        steady = λ x y e l m x' y' h k.
            say_same (strip_marks h.marks) (strip_marks k.marks) _ _ (said h.marks l h.told) (said k.marks m k.told)
            (s.steady x.inner y.inner x'.inner y'.inner h.marks k.marks e h.came k.came);
        found = λ n x y l h. record {
          marks = h.marks;
          came = s.found n x.inner y.inner h.marks h.came;
          told = h.told;
          noted = h.noted;
          idle = h.idle;
        };
      }
