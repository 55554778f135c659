-- The lengths of lines, and which are no length of an empty line.
use Rattle.std.proofs.Common.{◌≡◌, ◌∙◌, ℕ, Result, Ok, Err, Global, Bool, nat_lt, length, ap, refl, sym}
use Rattle.std.specs.declared.io.Error.{Error}
use Rattle.std.specs.declared.string.String.{String}
use Rattle.lite_base.specs.Calling.{AgreeFrom, KinAnswers}
use Rattle.lite_base.specs.Laws.Calling.{agree_narrower, answers_agree_from, kin_answers_by}
use Rattle.lite_base.specs.Runs.{Question}
use Rattle.lite_future.specs.declared.ready.Ready.{Ready}
use Rattle.nests_agree.specs.Lengths.{IsLength, IsTested, WillGiveLength}
use Rattle.lite_read.specs.Laws.Marks.{SameText}
use Rattle.lite_io_base.specs.Steady.{SameByKind, SameOr}

same_length : (x w : Result (String Global) Error) (y z : Result ℕ Error) → SameOr SameText x w → IsLength x y
    → IsLength w z → SameByKind y z
same_length (Ok s) (Ok t) y z e h k = rw (h, k) (ap length e)
same_length (Ok s) (Err f) y z e h k = absurd e
same_length (Err d) (Ok t) y z e h k = absurd e
same_length (Err d) (Err f) y z e h k = rw (h, k) e

same_tested : (x w : Result ℕ Error) (a b : Bool) → SameByKind x w → IsTested x a → IsTested w b → a ≡ b
same_tested (Ok n) (Ok m) a b e h k = h ∙ ap (nat_lt 0) e ∙ sym k
same_tested (Ok n) (Err f) a b e h k = absurd e
same_tested (Err d) (Ok m) a b e h k = absurd e
same_tested (Err d) (Err f) a b e h k = h ∙ sym k

pub same_future : (x w : Result (String Global) Error) (v u : Ready ℕ) → SameOr SameText x w → WillGiveLength x v
    → WillGiveLength w u → u.value ≡ v.value
same_future (Ok s) (Ok t) v u e h k = rw (h, k, e) refl
same_future (Ok s) (Err f) v u e h k = absurd e
same_future (Err d) (Ok t) v u e h k = absurd e
same_future (Err d) (Err f) v u e h k = k ∙ sym h

-- closures that give the lengths of lines give lengths that are the same of lines that are the same
module _ {F : Type 0} (call : Question F (Result (String Global) Error) (Result ℕ Error))
    (answers : (f g : F) (x : Result (String Global) Error) (y : Result ℕ Error) → call f x y g → IsLength x y) where
  pub kin_lengths : (y z : Result ℕ Error) → KinAnswers (SameOr SameText) call y z → SameByKind y z
  kin_lengths = kin_answers_by (SameOr SameText) SameByKind call IsLength answers same_length

  -- and of two such both go on, or none does
  pub kin_tested : {P : Type 0} (test : Question P (Result ℕ Error) Bool)
      → ((p q : P) (x : Result ℕ Error) (b : Bool) → test p x b q → IsTested x b) → (p q : P)
      → AgreeFrom (KinAnswers (SameOr SameText) call) (λ a b. a ≡ b) test p q
  kin_tested test tests p q =
      agree_narrower kin_lengths (answers_agree_from SameByKind (λ a b. a ≡ b) test IsTested tests same_tested p q)
