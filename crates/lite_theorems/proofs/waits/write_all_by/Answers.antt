use Rattle.lite_theorems.specs.Uses.{done, rules}
use Rattle.lite_write.proofs.Handed.{hand_up, writer_lent}
use Rattle.lite_theorems.proofs.waits.write_all_by.Goals as goal

pub returns : goal.returns
returns g c =
    let lends = writer_lent g.T.WriteSpec.writes _ _ _ _ (done c.wait.result) c.write_all.ensures (c.wait.ensures, tt) in
    let up = hand_up g.T.WriteSpec.writes _ _ _ _ (done c.wait.result) c.write_all.ensures (c.wait.ensures, tt) g.T.WriteSpec.write_laws _
    (search rules) in
    (up.0, up.1, up.2)
