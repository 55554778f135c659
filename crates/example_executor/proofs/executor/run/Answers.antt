use Rattle.std.proofs.Common.{arith, refl}
use Rattle.example_executor.proofs.Tasks.{each_follows, each_idle, none_came, one_came}
use Rattle.example_executor.proofs.executor.run.Goals as goal

pub returns-in-Err-clause-ran : goal.returns-in-Err-clause-ran
returns-in-Err-clause-ran g c = each_idle g.met.F.Future.laws _

pub loop-2-init : goal.loop-2-init
loop-2-init g c = (each_idle g.met.F.Future.laws _, c.requires, refl)

pub loop-2-preserved : goal.loop-2-preserved
loop-2-preserved g c =
    let h = c.loop-2.invariant in
    let ran = c.poll_at.ensures in
    let none = none_came _ _ _ c.if-poll_at.false ran.came in
    (each_follows g.met.F.Future.laws _ _ _ h.0 ran.ran, ran.again, omega (arith, none, h.2))

pub returns-in_default-clause-ran : goal.returns-in_default-clause-ran
returns-in_default-clause-ran g c = each_idle g.met.F.Future.laws _

pub loop-2-preserved-then-poll_at : goal.loop-2-preserved-then-poll_at
loop-2-preserved-then-poll_at g c =
    let h = c.loop-2.invariant in
    let ran = c.poll_at.ensures in
    let one = one_came _ _ _ c.if-poll_at.true ran.came in
    (each_follows g.met.F.Future.laws _ _ _ h.0 ran.ran, ran.again, omega (arith, one, h.2, c.if-left-eq0.false))
