-- `zip` of futures: `Pending` until both values have come, and then the pair.
use Rattle.std.specs.Prelude.{List}
use Rattle.lite_future.specs.Uses.{Poll, Runs}
use Rattle.lite_future.specs.Together.{Together}
use Rattle.lite_future.specs.declared.side.Side.{Side}

-- `Pending` in each row until both futures have returned their values, and then the pair of the two. A value that comes
-- first is held.
abbrev pub FutureZips : {F G A B : Type 0} → Runs (Poll A) F → Runs (Poll B) G → Side F A → Side G B
    → List (Poll (A × B)) → Side F A → Side G B → Type 0
FutureZips = Together (λ v. v) (λ w. w) (λ v w. (v, w))
