use Rattle.futures_lite.specs.Uses.{refl, CalledAt, only_made, seen, lent_lists}
use Rattle.lite_views.proofs.Find.{find_left, find_made}
use Rattle.futures_lite.proofs.stream.StreamExt.find.Goals as goal

pub returns-clause-value : goal.returns-clause-value
returns-clause-value g c test xs lists acts =
    rw c.find.ensures
    (only_made _ _ _ xs _ (lent_lists _ _ xs lists) (find_made (CalledAt g.P.FnMut) _ test acts _ xs refl))

pub returns-clause-left : goal.returns-clause-left
returns-clause-left g c test xs = (
  refl,
  seen _ xs,
  λ lists acts. rw c.find.ensures (find_left (CalledAt g.P.FnMut) _ test acts g.met.Self.Stream.laws _ xs lists refl),
)
