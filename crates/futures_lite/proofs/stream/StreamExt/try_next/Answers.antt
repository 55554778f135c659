use Rattle.futures_lite.specs.Uses.{seen}
use Rattle.lite_views.proofs.TryNext.{try_next_left}
use Rattle.futures_lite.proofs.stream.StreamExt.try_next.Goals as goal

pub returns-clause-left : goal.returns-clause-left
returns-clause-left g c =
    rw c.try_next.ensures
    (λ xs lists. try_next_left g.met.Self.Stream.laws _ xs lists, λ xs lists. (seen _ xs, try_next_left g.met.Self.Stream.laws _ xs lists))
