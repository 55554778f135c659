use Rattle.lite_gather.specs.Laws.Agreeing.{none_held}
use Rattle.properties_met.proofs.consuming.collections_are_alike.Goals as goal

pub returns-clause-collect : goal.returns-clause-collect
returns-clause-collect g c =
    (c.requires.alike, none_held g.S.SteadyStream.same _ _ _ c.requires.first c.requires.second)

pub returns-clause-partition : goal.returns-clause-partition
returns-clause-partition g c =
    let same = g.S.SteadyStream.same in (
      c.requires.alike,
      (
        c.requires.tests,
        (
          none_held same _ _ _ c.requires.first c.requires.second,
          none_held same _ _ _ c.requires.second c.requires.first,
        ),
      ),
    )
