use Rattle.lite_theorems.specs.Uses.{done, rules}
use Rattle.lite_write.proofs.Handed.{flush_lent, flush_up}
use Rattle.lite_theorems.proofs.waits.flush_by.Goals as goal

pub returns : goal.returns
returns g c =
    let lends = flush_lent g.T.WriteSpec.writes _ _ _ (done c.wait.result) c.flush.ensures (c.wait.ensures, tt) in
    let up = flush_up g.T.WriteSpec.writes _ _ _ (done c.wait.result) c.flush.ensures (c.wait.ensures, tt) g.T.WriteSpec.write_laws _
    (search rules) in
    (up.0, up.1, up.2, up.3)
