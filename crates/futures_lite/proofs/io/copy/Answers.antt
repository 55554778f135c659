use Rattle.lite_views.proofs.Copy.{copy_left, on_each}
use Rattle.futures_lite.proofs.io.copy.Goals as goal

pub returns-clause-all : goal.returns-clause-all
returns-clause-all g c =
    on_each c.copy.result c.copy.ensures.reader c.copy.ensures.writer c.copy.ensures.begins
    (λ f reader writer begins knows stores.
    copy_left g.R.ReadSpec.reads g.W.WriteSpec.writes g.R.ReadSpec.known g.W.WriteSpec.stored _ _ f reader writer begins knows
    stores)
