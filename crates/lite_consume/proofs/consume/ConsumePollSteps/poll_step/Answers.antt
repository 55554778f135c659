use Rattle.std.specs.Prelude.{refl}
use Rattle.lite_base.specs.Laws.EachItem.{each_asked, each_here, each_pending}
use Rattle.lite_consume.proofs.consume.ConsumePollSteps.poll_step.Goals as goal

pub take_in-requires-clause-takes : goal.take_in-requires-clause-takes
take_in-requires-clause-takes g c =
    let ran = rw c.in-Ready-Some.field-0-is at c.in-Ready-Some.ensures.ran in
    each_here c.requires.3 ran refl

pub returns-in-None-clause-stepped : goal.returns-in-None-clause-stepped
returns-in-None-clause-stepped g c =
    let ran = rw c.in-Ready-Some.field-0-is at c.in-Ready-Some.ensures.ran in
    let taken = rw c.in-None.is at c.take_in.ensures in
    let more = each_asked {g = c.take_in.new.self} {o = tt} g.met.S.Stream.laws c.requires.3 ran refl taken in
    let returns = g.met.F.Folder.returns in
    let counts = returns.counts_on _ _ _ c.requires.1 ran in
    ((c.poll_next.ensures.again, counts, returns.opens _ c.take_in.new.self _ c.requires.2 taken, more), (_, ran, taken))

pub returns-in-Pending-clause-stepped : goal.returns-in-Pending-clause-stepped
returns-in-Pending-clause-stepped g c =
    let ran = c.in-Pending.ensures.ran in
    let more = each_pending _ _ _ g.met.S.Stream.laws.follows _ _ _ c.requires.3 ran in
    let counts = g.met.F.Folder.returns.counts_on _ _ _ c.requires.1 ran in
    ((c.poll_next.ensures.again, counts, c.requires.2, more), (_, ran, refl {a = c.args.self.now.folder}))
