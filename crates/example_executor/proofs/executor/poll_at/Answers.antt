use Rattle.std.proofs.Common.{refl}
use Rattle.example_executor.proofs.Tasks.{each_idle, each_set, finished_set}
use Rattle.example_executor.proofs.executor.poll_at.Goals as goal

pub returns-then-at-tasks-clause-ran : goal.returns-then-at-tasks-clause-ran
returns-then-at-tasks-clause-ran g c =
    each_set g.met.F.Future.laws _ _ _ _ c.index-tasks-at.result c.if-at-tasks.true refl c.poll_one.ensures.ran

pub returns-clause-ran : goal.returns-clause-ran
returns-clause-ran g c = each_idle g.met.F.Future.laws _

pub returns-then-at-tasks-clause-came : goal.returns-then-at-tasks-clause-came
returns-then-at-tasks-clause-came g c =
    finished_set _ _ _ _ c.index-tasks-at.result _ c.if-at-tasks.true refl c.poll_one.ensures.came
