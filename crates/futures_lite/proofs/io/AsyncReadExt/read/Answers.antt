use Rattle.lite_views.proofs.OneCall.{read_left}
use Rattle.futures_lite.proofs.io.AsyncReadExt.read.Goals as goal

pub returns-clause-once : goal.returns-clause-once
returns-clause-once g c known = rw c.read.ensures (read_left g.Self.ReadSpec.read_laws g.Self.ReadSpec.known _ known)
