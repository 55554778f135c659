use Rattle.std.proofs.Common.{rules}
use Rattle.framed.specs.Uses.{done}
use Rattle.lite_write.proofs.Handed.{flush_lent, flush_up}
use Rattle.framed.proofs.waiting.flush_by.Goals as goal

pub returns : goal.returns
returns g c =
    let lends = flush_lent g.O.WriteSpec.writes _ _ _ (done c.wait.result) c.flush.ensures (c.wait.ensures, tt) in
    let up = flush_up g.O.WriteSpec.writes _ _ _ (done c.wait.result) c.flush.ensures (c.wait.ensures, tt)
    g.O.WriteSpec.write_laws _ (search rules) in
    (up.0, up.1, up.2, up.3)
