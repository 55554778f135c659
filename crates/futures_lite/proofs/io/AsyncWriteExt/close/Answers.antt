use Rattle.lite_views.proofs.OneCall.{closed_left}
use Rattle.futures_lite.proofs.io.AsyncWriteExt.close.Goals as goal

pub returns-clause-all : goal.returns-clause-all
returns-clause-all g c known = rw c.close.ensures (closed_left g.Self.WriteSpec.write_laws g.Self.WriteSpec.stored _ known)
