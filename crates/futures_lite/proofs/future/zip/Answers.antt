use Rattle.lite_views.proofs.Picking.{zip_both}
use Rattle.futures_lite.proofs.future.zip.Goals as goal

pub returns-clause-both : goal.returns-clause-both
returns-clause-both g c =
    zip_both g.F1.Future.run g.F2.Future.run _ _ _ c.zip.ensures.first c.zip.ensures.second
