use Rattle.lite_views.proofs.Picking.{or_at_once, or_picked}
use Rattle.futures_lite.proofs.future.or.Goals as goal

pub returns-clause-at_once : goal.returns-clause-at_once
returns-clause-at_once g c =
    rw c.or.ensures (or_at_once g.F1.Future.run g.F2.Future.run _)

pub returns-clause-picked : goal.returns-clause-picked
returns-clause-picked g c =
    rw c.or.ensures (or_picked g.F1.Future.run g.F2.Future.run _)
