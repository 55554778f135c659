use Rattle.compat.specs.Laws.Collected.{finishes_gives}
use Rattle.compat.proofs.laws.gives_same.Goals as goal

pub returns-clause-here : goal.returns-clause-here
returns-clause-here g c x value h = finishes_gives g.F.Future.can_poll g.F.Future.gives x h.0 value h.1

pub returns-clause-back : goal.returns-clause-back
returns-clause-back g c x value h = finishes_gives g.F.Future.can_poll g.F.Future.gives x.inner h.0 value h.1
