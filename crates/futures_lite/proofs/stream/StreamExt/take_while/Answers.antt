use Rattle.futures_lite.specs.Uses.{CalledAt, take_while_parts, listed_through}
use Rattle.lite_views.proofs.TakeWhile.{taken_while_fits}
use Rattle.futures_lite.proofs.stream.StreamExt.take_while.Goals as goal

pub returns-clause-lists : goal.returns-clause-lists
returns-clause-lists g c test xs lists acts =
    rw c.take_while.ensures (listed_through take_while_parts _ _ _ xs _ lists
    (taken_while_fits (CalledAt g.P.FnMut) _ test acts xs))
