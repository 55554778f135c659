use Rattle.futures_lite.specs.Uses.{refl, CallsBoth, only_made}
use Rattle.lite_views.proofs.Fold.{fold_made}
use Rattle.futures_lite.proofs.stream.StreamExt.fold.Goals as goal

pub returns-clause-value : goal.returns-clause-value
returns-clause-value g c h xs lists acts =
    let made = fold_made (CallsBoth g.F.FnMut) h _ acts in
    rw c.fold.ensures (only_made _ _ _ xs _ lists (made _ _ xs refl refl))
