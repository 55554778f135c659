use Rattle.std.specs.Prelude.{◌≡◌, ◌+◌}
use Rattle.std.specs.List.{AllByRecursion}
use Rattle.example_executor.specs.Tasks.{EachRan, MayRun, finished}
use Rattle.example_executor.proofs.executor.run.Given as goal

abbrev pub invariant-loop-2 : goal.invariant-loop-2
invariant-loop-2 g l =
    EachRan g.F.Future.run l.initial.tasks l.tasks × AllByRecursion (MayRun g.F.Future.can_poll) l.tasks
    × (l.left + finished l.tasks ≡ l.initial.left + finished l.initial.tasks)
