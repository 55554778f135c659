use Rattle.std.specs.Fn.{CalledAt}
use Rattle.std.specs.Prelude.{⊤}
use Rattle.lite_consume.specs.Laws.Agreeing.{consumed_ample, part_within}
use Rattle.lite_gather.proofs.Ample.{collect_within, partition_within}
use Rattle.properties_met.proofs.consuming.collected.Goals as goal

pub returns-clause-collect : goal.returns-clause-collect
returns-clause-collect g c =
    λ takes x y l ok h. consumed_ample (λ i. ⊤) (λ s t i u. takes s t i)
    (part_within (λ f. f.collection) (collect_within _ g.C.Gather.holds)) x y l ok (λ i k. tt) h

pub returns-clause-partition : goal.returns-clause-partition
returns-clause-partition g c =
    λ takes x y l ok h. consumed_ample (λ i. ⊤) (λ s t i u. takes s t i)
    (part_within (λ f. (f.predicate, f.res)) (partition_within _ g.C.Gather.holds (CalledAt g.P.FnMut)))
    x y l ok (λ i k. tt) h
