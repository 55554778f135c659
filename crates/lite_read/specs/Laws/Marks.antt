-- The results of `split`, `lines` and `read_until` do not depend on when their reader was pending, if no allocation
-- failed.
use Rattle.std.specs.Prelude.{◌≡◌, ℕ, List, [], ◌∷◌, ◌++◌, Ok, Err, length, string_bytes}
use Rattle.lite_read.specs.Uses.{◌∙◌, Global, ap, sym, String, Vec, Sameness, FutureSteadyLawsBy, Runs, ReadMark, SteadyReadLaws, SameByKind, without_return}
use Rattle.std.proofs.lemmas.Str.{IsUtf8-string_bytes}
use Rattle.lite_read.specs.Laws.Gathers.{gathers_alike}
use Rattle.lite_read.specs.Deterministic.{IsDeterministic}
use Rattle.lite_read.specs.Laws.ReadUntil.{until_runs}
use Rattle.lite_read.specs.Laws.DeterministicPieces.{BecomesOne, MakesOne, pieces_deterministic}
use Rattle.lite_read.specs.Pieces.{Cut}
use Rattle.lite_read.specs.ReadUntil.{read_of, CountsPiece, ReadsUntil, ReadsUntilByRoom, until}
use Rattle.lite_read.specs.Split.{IsVec}
use Rattle.lite_read.specs.Texts.{IsText}
use Rattle.lite_read.specs.declared.read_until.ReadUntilFuture.{ReadUntilFuture}

-- Two vectors have equal bytes.
abbrev pub SameVec : Vec ℕ Global → Vec ℕ Global → Type 0
SameVec v w = v.items ≡ w.items

-- Two texts have equal bytes.
abbrev pub SameText : String Global → String Global → Type 0
SameText s t = string_bytes s ≡ string_bytes t

pub vec_one : MakesOne SameVec IsVec
vec_one xs (Ok v) (Ok w) h k = h ∙ sym k
vec_one xs (Ok v) (Err e) h k = absurd k
vec_one xs (Err e) r h k = absurd h

pub text_one : MakesOne SameText IsText
text_one xs (Ok s) (Ok t) h k = h ∙ sym k
text_one xs (Ok s) (Err e) h k = absurd (k.1 (rw (← h) (IsUtf8-string_bytes s)))
text_one xs (Err e) (Ok t) h k = absurd (h.1 (rw (← k) (IsUtf8-string_bytes t)))
text_one xs (Err e) (Err f) h k = h.0 ∙ sym k.0

pub line_one : MakesOne SameText (λ xs. IsText (without_return xs))
line_one xs = text_one _

module _ (byte : ℕ) where
  counted_one : BecomesOne SameByKind (CountsPiece byte)
  counted_one (Cut.piece xs) (Cut.piece ys) held v w p q e h k =
      let same = h.0 ∙ ap (λ zs. zs ++ byte ∷ []) e ∙ sym k.0 in
      rw (h.1, k.1) (ap length same, same)
  counted_one (Cut.last xs) (Cut.last ys) held v w p q e h k =
      let same = h.0 ∙ e ∙ sym k.0 in rw (h.1, k.1) (ap length same, same)
  counted_one Cut.nothing Cut.nothing held v w p q e h k =
      let same = h.0 ∙ sym k.0 in rw (h.1, k.1) (ap length same, same)
  counted_one (Cut.failed a) (Cut.failed b) held v w p q e h k = rw (h.1, k.1) (e, h.0 ∙ sym k.0)
  counted_one _ _ held v w p q e h k = absurd e

  pub until_deterministic : IsDeterministic SameByKind (until byte ⊥)
  until_deterministic = pieces_deterministic byte _ (counted_one)

module _ {R : Type 0} where
  -- Two `read_until` futures have read equal bytes and have one delimiter, over readers that are alike.
  abbrev pub UntilAlike : (R → R → Type 0) → ReadUntilFuture R → ReadUntilFuture R → Type 0
  UntilAlike alike x y = alike x.reader.now y.reader.now × (read_of x ≡ read_of y) × (x.byte ≡ y.byte)

  module _ {reads : Runs ReadMark R} where
    pub until_steady : (buffer_of : R → List ℕ) {ample : Runs ReadMark R} {needs_none : Type 0} {alike : R → R → Type 0}
        → SteadyReadLaws reads ample needs_none alike
        → FutureSteadyLawsBy (Sameness.by SameByKind) (ReadsUntilByRoom reads buffer_of) (ReadsUntil ample ⊥) ⊥
        (UntilAlike alike)
    until_steady buffer_of s =
        record {
          laws = until_runs ⊥ s.laws;
          steady = λ x y e. gathers_alike (λ x. until_deterministic x.byte) s x y e.0 e.1 (rw (sym e.2));
          found = λ n. absurd n;
        }
