use Rattle.std.proofs.Common.{rules, ◌≡◌}
use Rattle.lite_consume.specs.Laws.Agreeing.{finished_taking_none, part_within}
use Rattle.lite_gather.specs.Laws.Agreeing.{both_there, no_parts}
use Rattle.lite_gather.proofs.Ample.{unzip_within}
use Rattle.nests_agree.proofs.Found.{both_found}
use Rattle.nests_agree.proofs.collections.unzips_agree.Goals as goal

pub block_on_both-requires-clause-alike : goal.block_on_both-requires-clause-alike
block_on_both-requires-clause-alike g c =
    let one = c.unzip.ensures in
    let other = c.unzip-2.ensures in (
      search rules,
      both_there (λ v w e d.
          no_parts _ _ g.S.SteadyStream.same v w e.0 e.1 d.0 d.1) _ _ one.open other.open one.empty other.empty,
    )

pub returns : goal.returns
returns g c =
    let found = finished_taking_none (g.met.S.SteadyStream.steady.found c.requires.found)
    (part_within (λ f. f.res) (unzip_within _ _ (λ v l. v.items ≡ l) (λ v l. v.items ≡ l))) in
    both_found _ _ c.unzip.result c.unzip-2.result found (λ v w h. h) c.block_on_both.result c.block_on_both.ensures
