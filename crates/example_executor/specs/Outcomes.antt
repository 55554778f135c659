-- What becomes of tasks that have a poll limit.
use Rattle.std.specs.Prelude.{◌≡◌, ◌≤◌, ℕ, List, length, Result, Ok, Err, None}
use Rattle.std.specs.List.{AllZip}
use Rattle.futures_lite.specs.Answers.{Gives, Poll, Waiting}
use Rattle.futures_lite.specs.Own.{Runs}
use Rattle.futures_lite.specs.declared.future.PollLimited.{PollLimited}
use Rattle.futures_lite.specs.declared.future.Exhausted.{Exhausted}
use Rattle.example_executor.specs.declared.task.Task.{Task}

-- What became of a future that may be polled so often. It returned the value, after `Pending`s, within these polls. Or
-- it was polled as often as that, and returned `Pending` each time.
abbrev pub OutcomeWithin : {F A : Type 0} → Runs (Poll A) F → ℕ → F → Result A Exhausted → Type 0
OutcomeWithin {F} {A} run polls x (Ok v) = (l : List (Poll A)) × (y : F) × run x l y × Gives l v × (length l ≤ polls)
OutcomeWithin {F} {A} run polls x (Err e) = (l : List (Poll A)) × (y : F) × run x l y × Waiting l × (length l ≡ polls)

-- The futures have one outcome each, in order.
abbrev pub EachOutcome : {F A : Type 0} → Runs (Poll A) F → ℕ → List F → List (Result A Exhausted) → Type 0
EachOutcome run polls = AllZip (OutcomeWithin run polls)

-- The task of a future with a poll limit, before it is polled.
abbrev pub task_within : {F A : Type 0} → ℕ → F → Task (PollLimited F) (Result A Exhausted)
task_within polls x = record { future = record { inner = x; left = polls }; value = None }
