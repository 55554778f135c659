use Rattle.properties_met.proofs.Repeated.{clones_unrefused}
use Rattle.properties_met.proofs.sources.repeated.Goals as goal

pub returns-clause-ample : goal.returns-clause-ample
returns-clause-ample g c =
    λ x y l none h. (clones_unrefused g.T.Clone.is_clone g.T.Clone.is_infallible x.item l none h.0, h.1)
