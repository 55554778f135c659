use Rattle.lite_views.proofs.PollFn.{polled_on}
use Rattle.futures_lite.proofs.stream.poll_fn.Goals as goal

pub returns-clause-on : goal.returns-clause-on
returns-clause-on g c x acts = rw c.poll_fn.ensures (polled_on _ _ x acts)
