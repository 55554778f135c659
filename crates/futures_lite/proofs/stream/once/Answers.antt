use Rattle.lite_views.proofs.Once.{once_at_once, once_fronts, once_lists}
use Rattle.futures_lite.proofs.stream.once.Goals as goal

pub returns-clause-lists : goal.returns-clause-lists
returns-clause-lists g c = rw c.once.ensures (once_lists _)

pub returns-clause-at_once : goal.returns-clause-at_once
returns-clause-at_once g c = rw c.once.ensures (once_at_once _)

pub returns-clause-fronts : goal.returns-clause-fronts
returns-clause-fronts g c = rw c.once.ensures (once_fronts _)
