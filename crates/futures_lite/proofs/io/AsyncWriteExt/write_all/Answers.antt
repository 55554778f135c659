use Rattle.lite_views.proofs.WriteAll.{accepted_left, written_left}
use Rattle.futures_lite.proofs.io.AsyncWriteExt.write_all.Goals as goal

pub returns-clause-all : goal.returns-clause-all
returns-clause-all g c stores =
    rw c.write_all.ensures (written_left g.Self.WriteSpec.writes g.Self.WriteSpec.stored _ stores)

pub returns-clause-accepted : goal.returns-clause-accepted
returns-clause-accepted g c accepts = rw c.write_all.ensures (accepted_left g.Self.WriteSpec.writes _ accepts)
