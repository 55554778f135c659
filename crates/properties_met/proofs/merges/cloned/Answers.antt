use Rattle.lite_reshape.specs.Laws.Cloned.{cloned_ample}
use Rattle.properties_met.proofs.merges.cloned.Goals as goal

pub returns-clause-ample : goal.returns-clause-ample
returns-clause-ample g c = cloned_ample g.T.Clone.is_clone g.T.Clone.is_infallible
