use Rattle.futures_lite.specs.Uses.{refl, Calls, only_made, seen, lent_lists}
use Rattle.lite_views.proofs.Position.{position_left, position_made}
use Rattle.futures_lite.proofs.stream.StreamExt.position.Goals as goal

pub returns-clause-value : goal.returns-clause-value
returns-clause-value g c test xs lists acts small =
    let made = position_made (Calls g.P.FnMut) _ test acts in
    rw c.position.ensures (only_made _ _ _ xs _ (lent_lists _ _ xs lists) (made _ xs refl refl small))

pub returns-clause-left : goal.returns-clause-left
returns-clause-left g c test xs = (
  refl,
  seen _ xs,
  λ lists acts small.
      rw c.position.ensures (position_left (Calls g.P.FnMut) _ test acts g.met.Self.Stream.laws _ xs lists refl refl small),
)
