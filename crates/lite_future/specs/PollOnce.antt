-- `poll_once`: one value, which tells the result of the future's first poll.
use Rattle.std.specs.Prelude.{◌≡◌, [], ◌∷◌, Option, Some, None}
use Rattle.lite_future.specs.Uses.{Poll, Ready, Pending, Runs}
use Rattle.lite_future.specs.declared.poll_once.PollOnce.{PollOnce}

-- `Some` of the value if the result is one, and `None` if the result is `Pending`.
abbrev pub first_told : {A : Type 0} → Poll A → Option A
first_told (Ready x) = Some x
first_told Pending = None

-- The future is polled once, and the value is `Some` of what it returned, or `None` if it was pending. No other result
-- follows.
abbrev pub GivesFirst : {F A : Type 0} → Runs (Poll A) F → Runs (Poll (Option A)) (PollOnce F)
GivesFirst run x [] y = y ≡ x
GivesFirst {A = A} run x (b ∷ l) y = (a : Poll A) × run x.f (a ∷ []) y.f × (b ≡ Ready (first_told a)) × (l ≡ [])
