use Rattle.futures_lite.specs.Uses.{LacksRoom, value_made, seen}
use Rattle.lite_views.proofs.Collect.{collect_made}
use Rattle.futures_lite.proofs.stream.StreamExt.collect.Goals as goal

pub returns-clause-value : goal.returns-clause-value
returns-clause-value g c xs lists =
    let made = collect_made (LacksRoom g.C.Gather.has_room) g.C.Gather.holds _ xs c.collect.ensures.empty in
    (seen _ _, value_made _ _ _ xs _ (rw c.collect.ensures.stream lists) made)
