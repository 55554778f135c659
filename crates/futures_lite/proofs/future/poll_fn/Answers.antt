use Rattle.lite_views.proofs.Picking.{polled_at_once, polled_returned}
use Rattle.futures_lite.proofs.future.poll_fn.Goals as goal

pub returns-clause-returned : goal.returns-clause-returned
returns-clause-returned g c = rw c.poll_fn.ensures (polled_returned _ _)

pub returns-clause-value : goal.returns-clause-value
returns-clause-value g c v acts = rw c.poll_fn.ensures (polled_at_once _ _ v acts)
