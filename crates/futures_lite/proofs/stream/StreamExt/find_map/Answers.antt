use Rattle.futures_lite.specs.Uses.{refl, Calls, only_made, lent_lists}
use Rattle.lite_views.proofs.FindMap.{find_map_made}
use Rattle.futures_lite.proofs.stream.StreamExt.find_map.Goals as goal

pub returns-clause-value : goal.returns-clause-value
returns-clause-value g c h xs lists acts =
    rw c.find_map.ensures
    (only_made _ _ _ xs _ (lent_lists _ _ xs lists) (find_map_made (Calls g.F.FnMut) _ h acts _ xs refl))
