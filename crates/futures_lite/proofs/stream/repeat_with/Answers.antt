use Rattle.lite_views.proofs.RepeatWith.{called_on}
use Rattle.futures_lite.proofs.stream.repeat_with.Goals as goal

pub returns-clause-on : goal.returns-clause-on
returns-clause-on g c x acts = rw c.repeat_with.ensures (called_on _ _ x acts)
