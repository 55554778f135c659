use Rattle.serving.specs.Uses.{refl, rules}
use borrow.Rule.Slice.PartAt.{part_to_end}
use Rattle.serving.specs.StepLaws.{wrote_some}
use Rattle.serving.proofs.serving.Serving.write_some.Goals as goal

pub returns-in-Ready-Ok-clause-put : goal.returns-in-Ready-Ok-clause-put
returns-in-Ready-Ok-clause-put g c =
    let all = part_to_end c.deref.result.now c.self.inside.written in
    let bound = rw (c.in-Ready-Ok.field-0-is, all) at c.in-Ready-Ok.ensures.bound in
    let came = rw (c.in-Ready-Ok.field-0-is, all) at c.in-Ready-Ok.ensures.ran in
    wrote_some g.O.WriteSpec.writes c.args.self.now c.took.new.self c.in-Ready-Ok.n (search rules) (rw (← c.self.view_is, ← c.deref.ensures.value) bound)
    (rw (c.took.ensures, ← c.self.view_is, ← c.deref.ensures.value) came) (rw (c.took.ensures, ← c.self.view_is) refl)
