use Rattle.futures_lite.specs.Uses.{refl, CalledAt, LacksRoom, value_made}
use Rattle.lite_views.proofs.Partition.{accepted_made, others_made}
use Rattle.futures_lite.proofs.stream.StreamExt.partition.Goals as goal

pub returns-clause-accepted : goal.returns-clause-accepted
returns-clause-accepted g c test xs lists acts =
    let e = c.partition.ensures in
    let made = accepted_made (LacksRoom g.B.Gather.has_room) g.B.Gather.holds (CalledAt g.P.FnMut) _ test acts in
    (refl, value_made _ _ _ xs _ (rw e.stream lists) (made _ xs e.predicate e.empty))

pub returns-clause-others : goal.returns-clause-others
returns-clause-others g c rest xs lists acts =
    let e = c.partition.ensures in
    let made = others_made (LacksRoom g.B.Gather.has_room) g.B.Gather.holds (CalledAt g.P.FnMut) _ rest acts in
    (refl, value_made _ _ _ xs _ (rw e.stream lists) (made _ xs e.predicate e.empty))
