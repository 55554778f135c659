use Rattle.futures_lite.specs.Uses.{CalledAt, filter_parts, listed_through}
use Rattle.lite_views.proofs.Filter.{filter_fewer, filtered_fits}
use Rattle.futures_lite.proofs.stream.StreamExt.filter.Goals as goal

pub returns-clause-lists : goal.returns-clause-lists
returns-clause-lists g c test xs lists acts =
    rw c.filter.ensures (
      listed_through filter_parts _ _ _ xs _ lists
          (filtered_fits (CalledAt g.P.FnMut) _ test acts xs),
      filter_fewer test xs,
    )
