use Rattle.lite_source.specs.Uses.{makes_on}
use Rattle.std.proofs.Common.{rules}
use Rattle.lite_source.proofs.unfolding.Unfolding.make_future.Goals as goal
use Rattle.lite_source.proofs.unfolding.Unfolding.make_future.Goals.{in-Some-1, in-None-1}

pub returns-in-Some-clause-makes : goal.returns-in-Some-clause-makes
returns-in-Some-clause-makes g c =
    (makes_on g.F.FnMut g.Fut.Future.can_poll _ _ c.f.result _ c.requires.makes c.f.ensures).1

pub returns-in-Some-clause-asked : goal.returns-in-Some-clause-asked
returns-in-Some-clause-asked g c =
    let made = (makes_on g.F.FnMut g.Fut.Future.can_poll _ _ c.f.result _ c.requires.makes c.f.ensures).0 in
    elim c.match-self.branch [
      | in-Some-1 w ↦ search rules
      | in-None-1 w ↦ search rules
    ]
