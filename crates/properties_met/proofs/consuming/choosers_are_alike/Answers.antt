use Rattle.std.proofs.Common.{None}
use Rattle.lite_base.specs.Laws.Alike.{ends_same, same_held}
use Rattle.properties_met.proofs.consuming.choosers_are_alike.Goals as goal

pub returns-clause-last : goal.returns-clause-last
returns-clause-last g c = let same = g.S.SteadyStream.same in (c.requires, same_held same None None (ends_same same))
