use Rattle.futures_lite.specs.Uses.{refl, Calls, only_made, lent_lists}
use Rattle.lite_views.proofs.All.{all_made}
use Rattle.futures_lite.proofs.stream.StreamExt.all.Goals as goal

pub returns-clause-value : goal.returns-clause-value
returns-clause-value g c test xs lists acts =
    rw c.all.ensures
    (only_made _ _ _ xs _ (lent_lists _ _ xs lists) (all_made (Calls g.P.FnMut) _ test acts _ xs refl))
