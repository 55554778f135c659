use Rattle.std.specs.Prelude.{[]}
use Rattle.compat.specs.Laws.Collected.{step_yields}
use Rattle.compat.proofs.laws.yields_same.Goals as goal

pub returns-clause-here : goal.returns-clause-here
returns-clause-here g c x y l xs last rest running h e =
    step_yields g.S.Stream.can_poll g.S.Stream.yields x y l xs last rest running h e

pub returns-clause-back : goal.returns-clause-back
returns-clause-back g c x xs last running h =
    step_yields g.S.Stream.can_poll g.S.Stream.yields x.inner h.left h.ins xs last [] running h.came h.gave
