use Rattle.std.proofs.Common.{IfOk, subst}
use Rattle.compat.specs.Laws.Collected.{wait_gives}
use Rattle.compat.proofs.wait.wait_from_kit.Goals as goal

pub returns-clause-gave : goal.returns-clause-gave
returns-clause-gave g c =
    subst (λ f. IfOk c.block_on.result (g.F.Future.gives f)) c.new.ensures.inner
    (wait_gives g.F.Future.can_poll g.F.Future.gives c.new.result c.block_on.result c.block_on.ensures.gave)
