use Rattle.futures_lite.specs.Uses.{refl}
use Rattle.lite_views.proofs.OnceFuture.{once_future_lists}
use Rattle.futures_lite.proofs.stream.once_future.Goals as goal

pub returns-clause-lists : goal.returns-clause-lists
returns-clause-lists g c v value = rw c.once_future.ensures (once_future_lists _ _ v value _ refl)
