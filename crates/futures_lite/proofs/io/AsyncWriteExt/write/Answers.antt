use Rattle.lite_views.proofs.OneCall.{wrote_left}
use Rattle.futures_lite.proofs.io.AsyncWriteExt.write.Goals as goal

pub returns-clause-once : goal.returns-clause-once
returns-clause-once g c known = rw c.write.ensures (wrote_left g.Self.WriteSpec.write_laws g.Self.WriteSpec.stored _ known)
