use Rattle.lite_views.proofs.Picking.{race_picked}
use Rattle.futures_lite.proofs.future.race.Goals as goal

pub returns-clause-picked : goal.returns-clause-picked
returns-clause-picked g c =
    rw c.race.ensures (race_picked g.F1.Future.run g.F2.Future.run _ _)
