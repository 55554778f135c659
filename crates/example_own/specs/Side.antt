-- One side of a merge: a stream, and the answer that it gave last and that was not passed on.
use Rattle.std.specs.Prelude.{◌≡◌, ◌≢◌, ℕ, [], ◌∷◌}
use Rattle.futures_lite.specs.Answers.{Answer, Pending}
use Rattle.futures_lite.specs.Contexts.{Lasting}
use Rattle.futures_lite.specs.Own.{Runs}
use Rattle.example_own.specs.declared.side.Side.{Side}

-- The side of the stream `s`, with no answer.
abbrev pub unanswered : {S : Type 0} → S → Side S
unanswered s = record { stream = s; answer = Pending }

-- The side `x` was filled and is `y` then: its stream was polled if there was no answer, and only then.
pub record Filled {S : Type 0} (run : Runs (Answer ℕ) S) (x y : Side S) : Type 0 where
  pub polled : x.answer ≡ Pending → run x.stream (y.answer ∷ []) y.stream
  pub kept : x.answer ≢ Pending → y ≡ x

-- What a side registers: what its stream does, if there is no answer.
abbrev pub SideRegisters : {S : Type 0} → (S → Lasting → Type 0) → Side S → Lasting → Type 0
SideRegisters registers x fact = (x.answer ≡ Pending) × registers x.stream fact
