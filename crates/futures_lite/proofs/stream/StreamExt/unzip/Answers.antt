use Rattle.futures_lite.specs.Uses.{LacksRoom, value_made, seen}
use Rattle.lite_views.proofs.Unzip.{unzip_made}
use Rattle.futures_lite.proofs.stream.StreamExt.unzip.Goals as goal

pub returns-clause-value : goal.returns-clause-value
returns-clause-value g c xs lists =
    let made = unzip_made (LacksRoom g.FromA.Gather.has_room) (LacksRoom g.FromB.Gather.has_room) g.FromA.Gather.holds
    g.FromB.Gather.holds _ xs c.unzip.ensures.empty in
    (seen _ _, value_made _ _ _ xs _ (rw c.unzip.ensures.stream lists) made)
