use Rattle.futures_lite.specs.Uses.{seen}
use Rattle.lite_views.proofs.Nth.{nth_left}
use Rattle.futures_lite.proofs.stream.StreamExt.nth.Goals as goal

pub returns-clause-left : goal.returns-clause-left
returns-clause-left g c =
    rw c.nth.ensures
    (λ xs lists. nth_left g.met.Self.Stream.laws _ xs lists, λ xs lists. (seen _ xs, nth_left g.met.Self.Stream.laws _ xs lists))
