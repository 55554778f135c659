use Rattle.lite_base.specs.Alike.{SameOk}
use Rattle.lite_gather.specs.Laws.Agreeing.{no_parts, none_held, unmixed_holds, unmixed_on}
use Rattle.properties_met.proofs.consuming.parts_are_alike.Goals as goal

pub returns-clause-try_collect : goal.returns-clause-try_collect
returns-clause-try_collect g c =
    let same = g.S.SteadyStream.same in (
      unmixed_holds same _ c.requires.alike,
      unmixed_on same _ _ c.requires.alike (none_held (SameOk same) _ _ _ c.requires.values c.requires.values),
    )

pub returns-clause-unzip : goal.returns-clause-unzip
returns-clause-unzip g c =
    let asks = c.requires in
    (asks.pairs, no_parts _ _ g.U.SteadyStream.same _ _ asks.first asks.second asks.first asks.second)
