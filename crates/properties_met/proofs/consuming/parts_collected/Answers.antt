use Rattle.std.specs.Prelude.{⊤}
use Rattle.lite_consume.specs.Laws.Agreeing.{consumed_ample, part_within}
use Rattle.lite_gather.proofs.Ample.{try_collect_within, unzip_within}
use Rattle.properties_met.proofs.consuming.parts_collected.Goals as goal

pub returns-clause-try_collect : goal.returns-clause-try_collect
returns-clause-try_collect g c =
    λ takes x y l found h. consumed_ample (λ i. ⊤) (λ s t i u. takes s t i)
    (part_within (λ f. f.items) (try_collect_within _ g.C.Gather.holds)) x y l found (λ i k. tt) h

pub returns-clause-unzip : goal.returns-clause-unzip
returns-clause-unzip g c =
    λ takes x y l ok h. consumed_ample (λ i. ⊤) (λ s t i u. takes s t i)
    (part_within (λ f. f.res) (unzip_within _ _ g.D.Gather.holds g.E.Gather.holds)) x y l ok (λ i k. tt) h
