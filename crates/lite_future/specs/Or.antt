-- `or` of futures: the value that comes first, the first future's if both have one.
use Rattle.std.specs.Prelude.{map, true}
use Rattle.lite_future.specs.Uses.{Poll, Runs}
use Rattle.lite_future.specs.Picks.{Picks}
use Rattle.lite_future.specs.declared.or.Or.{Or}

-- In each row the first future is polled first. The first row with a value is the last, and its value is the first
-- future's if it has one.
abbrev pub FutureOrs : {F G A : Type 0} → Runs (Poll A) F → Runs (Poll A) G → Runs (Poll A) (Or F G)
FutureOrs run_first run_second x out y =
    Picks run_first run_second (map (λ _. true) out) x.future1 x.future2 out y.future1 y.future2
