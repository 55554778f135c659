use Rattle.lite_views.proofs.Picking.{try_at_once, try_both, try_fails_at_once, try_first_fails, try_second_fails}
use Rattle.futures_lite.proofs.future.try_zip.Goals as goal

pub returns-clause-at_once : goal.returns-clause-at_once
returns-clause-at_once g c =
    try_at_once g.F1.Future.run g.F2.Future.run _ _ _ c.try_zip.ensures.first c.try_zip.ensures.second

pub returns-clause-both : goal.returns-clause-both
returns-clause-both g c =
    try_both g.F1.Future.run g.F2.Future.run _ _ _ c.try_zip.ensures.first c.try_zip.ensures.second

pub returns-clause-second_fails : goal.returns-clause-second_fails
returns-clause-second_fails g c =
    try_second_fails g.F1.Future.run g.F2.Future.run _ _ _ c.try_zip.ensures.first c.try_zip.ensures.second

pub returns-clause-first_fails : goal.returns-clause-first_fails
returns-clause-first_fails g c =
    try_first_fails g.F1.Future.run g.F2.Future.run _ _ _ c.try_zip.ensures.first c.try_zip.ensures.second

pub returns-clause-fails_at_once : goal.returns-clause-fails_at_once
returns-clause-fails_at_once g c =
    try_fails_at_once g.F1.Future.run g.F2.Future.run _ _ _ c.try_zip.ensures.first c.try_zip.ensures.second
