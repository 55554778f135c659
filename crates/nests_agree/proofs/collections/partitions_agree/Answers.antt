use Rattle.std.proofs.Common.{rules, ◌≡◌, ◌∙◌, ap, sym, nat_eq, ◌%◌}
use Rattle.lite_base.specs.Alike.{SameItem}
use Rattle.lite_base.specs.Laws.Calling.{answers_agree_from}
use Rattle.lite_consume.specs.Laws.Agreeing.{finished_taking_none, part_within}
use Rattle.lite_gather.specs.Laws.Agreeing.{both_there, none_held}
use Rattle.lite_gather.proofs.Ample.{partition_within}
use Rattle.nests_agree.proofs.Found.{both_found, both_items, gathered_as}
use Rattle.nests_agree.proofs.collections.partitions_agree.Goals as goal

pub block_on_both-requires-clause-alike : goal.block_on_both-requires-clause-alike
block_on_both-requires-clause-alike g c = (
  search rules,
  (
    answers_agree_from (SameItem g.S.SteadyStream.same) (λ y z. y ≡ z) _ (λ x y. y ≡ nat_eq (x % 2) 0)
        (λ f g x y d. search rules)
        (λ x w y z e h k. h ∙ ap (λ n. nat_eq n 0) (c.requires.parity x w e) ∙ sym k) _ _,
    both_there (λ v w e d. (
      none_held g.S.SteadyStream.same _ _ _ e.0 d.0,
      none_held g.S.SteadyStream.same _ _ _ e.1 d.1,
    )) _ _ c.partition-sorted.ensures.open c.partition.ensures.open
        c.partition-sorted.ensures.empty c.partition.ensures.empty,
  ),
)

pub returns : goal.returns
returns g c =
    let found = finished_taking_none (g.met.S.SteadyStream.steady.found c.requires.found)
    (part_within (λ f. (f.predicate, f.res)) (partition_within _ (λ v l. v.items ≡ l) _)) in
    both_found _ _ c.partition-sorted.result c.partition.result found
    (gathered_as (both_items g.S.SteadyStream.same (λ v. v.items))) c.block_on_both.result c.block_on_both.ensures
