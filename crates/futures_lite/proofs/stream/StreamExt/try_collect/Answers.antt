use Rattle.futures_lite.specs.Uses.{LacksRoom, value_made, seen}
use Rattle.lite_views.proofs.Collecting.{all_collected, ok_seen}
use Rattle.lite_views.proofs.TryCollect.{try_collect_made}
use Rattle.futures_lite.proofs.stream.StreamExt.try_collect.Goals as goal

pub returns-clause-value : goal.returns-clause-value
returns-clause-value g c xs lists =
    let made = try_collect_made (LacksRoom g.C.Gather.has_room) g.C.Gather.holds _ xs c.try_collect.ensures.empty in
    (seen _ _, value_made _ _ _ xs _ (rw c.try_collect.ensures.stream lists) made)

pub returns-clause-read : goal.returns-clause-read
returns-clause-read g c f xs lists =
    let e = c.try_collect.ensures in
    (ok_seen _ _ _, all_collected (LacksRoom g.C.Gather.has_room) g.C.Gather.holds f _ _ xs e.empty (rw e.stream lists))
