use Rattle.std.proofs.Common.{rules}
use Rattle.framed.specs.Uses.{done}
use Rattle.lite_write.proofs.Handed.{hand_up, writer_lent}
use Rattle.framed.proofs.waiting.hand.Goals as goal

pub returns : goal.returns
returns g c =
    let lends = writer_lent g.O.WriteSpec.writes _ _ _ _ (done c.wait.result) c.write_all.ensures (c.wait.ensures, tt) in
    let up = hand_up g.O.WriteSpec.writes _ _ _ _ (done c.wait.result) c.write_all.ensures (c.wait.ensures, tt)
    g.O.WriteSpec.write_laws _ (search rules) in
    (up.0, up.1, up.2)
