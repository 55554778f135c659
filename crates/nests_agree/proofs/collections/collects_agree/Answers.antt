use Rattle.std.proofs.Common.{rules, ◌≡◌}
use Rattle.lite_consume.specs.Laws.Agreeing.{finished_taking_none, part_within}
use Rattle.lite_gather.specs.Laws.Agreeing.{both_there, none_held}
use Rattle.lite_gather.proofs.Ample.{collect_within}
use Rattle.nests_agree.proofs.Found.{both_found, gathered_as, same_items}
use Rattle.nests_agree.proofs.collections.collects_agree.Goals as goal

pub block_on_both-requires-clause-alike : goal.block_on_both-requires-clause-alike
block_on_both-requires-clause-alike g c = (
  search rules,
  both_there (none_held g.S.SteadyStream.same _) _ _ c.collect.ensures.open c.collect-2.ensures.open
      c.collect.ensures.empty c.collect-2.ensures.empty,
)

pub returns : goal.returns
returns g c =
    let found = finished_taking_none (g.met.S.SteadyStream.steady.found c.requires.found)
    (part_within (λ f. f.collection) (collect_within _ (λ v l. v.items ≡ l))) in
    both_found _ _ c.collect.result c.collect-2.result found
    (gathered_as (same_items g.S.SteadyStream.same (λ v. v.items))) c.block_on_both.result c.block_on_both.ensures
