use Rattle.futures_lite.specs.Uses.{refl, CallsBoth, only_made, lent_lists}
use Rattle.lite_views.proofs.TryFold.{try_fold_made}
use Rattle.futures_lite.proofs.stream.StreamExt.try_fold.Goals as goal

pub returns-clause-value : goal.returns-clause-value
returns-clause-value g c h xs lists acts =
    let made = try_fold_made (CallsBoth g.F.FnMut) h _ acts in
    rw c.try_fold.ensures (only_made _ _ _ xs _ (lent_lists _ _ xs lists) (made _ _ xs refl refl))
