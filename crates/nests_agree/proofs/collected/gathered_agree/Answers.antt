use Rattle.std.proofs.Common.{rules}
use Rattle.lite_gather.specs.Laws.Agreeing.{both_there, none_held}
use Rattle.nests_agree.proofs.Found.{both_found, gathered_as, same_items}
use Rattle.nests_agree.proofs.FoundLines.{gathered_found}
use Rattle.nests_agree.proofs.collected.gathered_agree.Goals as goal

pub block_on_both-requires-clause-alike : goal.block_on_both-requires-clause-alike
block_on_both-requires-clause-alike g c = (
  search rules,
  both_there (none_held g.S.SteadyStream.same _) _ _ c.collect.ensures.open c.collect-2.ensures.open
      c.collect.ensures.empty c.collect-2.ensures.empty,
)

pub returns : goal.returns
returns g c =
    both_found _ _ c.collect.result c.collect-2.result (gathered_found c.requires.found _)
    (gathered_as (same_items g.S.SteadyStream.same (λ v. v.items))) c.block_on_both.result c.block_on_both.ensures
