-- `ready`: its value at the first poll.
use Rattle.std.specs.Prelude.{◌≡◌, [], ◌∷◌, Option, Some, None}
use Rattle.lite_future.specs.Uses.{Poll, Ready, Runs}

-- The first poll returns the value that is held, and no other result follows.
abbrev pub GivesHeld : {A : Type 0} → Runs (Poll A) (Option A)
GivesHeld held [] left = left ≡ held
GivesHeld None (a ∷ l) left = ⊥
GivesHeld (Some x) (a ∷ l) left = (a ≡ Ready x) × (l ≡ []) × (left ≡ None)
