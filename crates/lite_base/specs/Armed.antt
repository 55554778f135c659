-- Streams and futures of which each `Pending` has registered the task somewhere, or has woken it.
use Rattle.std.specs.Prelude.{◌≡◌, List, [], ◌∷◌, Bool, true, false}
use Rattle.lite_base.specs.Uses.{Lasting, Poll, Ready, Pending}
use Rattle.lite_base.specs.Runs.{Runs}

-- Whether the last result is `Pending`. If the list is empty, the answer is `before`.
abbrev pub pends_last : {A : Type 0} → Bool → List (Poll A) → Bool
pends_last before [] = before
pends_last before (Pending ∷ l) = pends_last true l
pends_last before (Ready x ∷ l) = pends_last false l

-- The last result is `Pending`.
abbrev pub EndsPending : {A : Type 0} → List (Poll A) → Type 0
EndsPending l = pends_last false l ≡ true

-- What an `ArmedStream` or an `ArmedFuture` promises: each list of polls of which the last returned `Pending` leaves a
-- value that registers that the task is armed. So that poll has registered the task at a source, or has woken it.
pub record Arms {S A : Type 0} (run : Runs (Poll A) S) (registers : S → Lasting → Type 0) : Type 0 where
  pub at : (x y : S) (l : List (Poll A)) → EndsPending l → run x l y → registers y Lasting.armed
