use Rattle.std.proofs.Common.{◌≡◌}
use Rattle.lite_base.specs.Alike.{SameOk}
use Rattle.lite_consume.specs.Laws.Agreeing.{finished_taking_none, part_within}
use Rattle.lite_gather.specs.Laws.Agreeing.{both_there, none_held, unmixed_holds, unmixed_on}
use Rattle.lite_gather.proofs.Ample.{try_collect_within}
use Rattle.nests_agree.proofs.Found.{both_found, same_items, try_gathered_as}
use Rattle.nests_agree.proofs.collections.tries_agree.Goals as goal

pub block_on_both-requires-clause-alike : goal.block_on_both-requires-clause-alike
block_on_both-requires-clause-alike g c =
    let one = c.try_collect-tried.ensures in
    let other = c.try_collect.ensures in (
      rw (one.stream, other.stream) (unmixed_holds g.S.SteadyStream.same _ c.requires.alike),
      unmixed_on g.S.SteadyStream.same _ _ c.requires.alike
          (both_there (none_held (SameOk g.S.SteadyStream.same) _) _ _ one.open other.open one.empty other.empty),
    )

pub returns : goal.returns
returns g c =
    let found = finished_taking_none (g.met.S.SteadyStream.steady.found c.requires.found)
    (part_within (λ f. f.items) (try_collect_within _ (λ v l. v.items ≡ l))) in
    both_found _ _ c.try_collect-tried.result c.try_collect.result found
    (try_gathered_as
    (same_items (SameOk g.S.SteadyStream.same) (λ v. v.items)) _) c.block_on_both.result c.block_on_both.ensures
