use Rattle.lite_views.proofs.OneCall.{flushed_left}
use Rattle.futures_lite.proofs.io.AsyncWriteExt.flush.Goals as goal

pub returns-clause-all : goal.returns-clause-all
returns-clause-all g c known = rw c.flush.ensures (flushed_left g.Self.WriteSpec.write_laws g.Self.WriteSpec.stored _ known)
