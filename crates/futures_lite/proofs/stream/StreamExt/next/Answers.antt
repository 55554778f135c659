use Rattle.futures_lite.specs.Uses.{seen}
use Rattle.lite_views.proofs.Next.{next_left}
use Rattle.futures_lite.proofs.stream.StreamExt.next.Goals as goal

pub returns-clause-left : goal.returns-clause-left
returns-clause-left g c =
    rw c.next.ensures
    (λ xs lists. next_left g.met.Self.Stream.laws _ xs lists, λ xs lists. (seen _ xs, next_left g.met.Self.Stream.laws _ xs lists))
