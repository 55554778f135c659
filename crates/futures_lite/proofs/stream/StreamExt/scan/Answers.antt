use Rattle.futures_lite.specs.Uses.{scan_parts, listed_through}
use Rattle.lite_views.proofs.Scan.{scan_fewer, scanned_fits}
use Rattle.futures_lite.proofs.stream.StreamExt.scan.Goals as goal

pub returns-clause-lists : goal.returns-clause-lists
returns-clause-lists g c h xs lists acts =
    rw c.scan.ensures (listed_through scan_parts _ _ _ xs _ lists (scanned_fits _ h _ _ acts xs), scan_fewer h _ xs)
