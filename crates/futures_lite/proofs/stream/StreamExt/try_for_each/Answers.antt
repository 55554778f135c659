use Rattle.futures_lite.specs.Uses.{refl, Calls, only_made, lent_lists}
use Rattle.lite_views.proofs.TryForEach.{try_for_each_made}
use Rattle.futures_lite.proofs.stream.StreamExt.try_for_each.Goals as goal

pub returns-clause-value : goal.returns-clause-value
returns-clause-value g c h xs lists acts =
    rw c.try_for_each.ensures
    (only_made _ _ _ xs _ (lent_lists _ _ xs lists) (try_for_each_made (Calls g.F.FnMut) _ h acts _ xs refl))
