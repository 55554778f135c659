use Rattle.futures_lite.specs.Uses.{CalledAt, skip_while_parts, listed_through}
use Rattle.lite_views.proofs.SkipWhile.{skipped_while_fits}
use Rattle.futures_lite.proofs.stream.StreamExt.skip_while.Goals as goal

pub returns-clause-lists : goal.returns-clause-lists
returns-clause-lists g c test xs lists acts =
    rw c.skip_while.ensures (listed_through skip_while_parts _ _ _ xs _ lists
    (skipped_while_fits (CalledAt g.P.FnMut) _ test acts xs))
