use Rattle.lite_theorems.specs.Uses.{done, rules}
use Rattle.lite_theorems.proofs.Waited.{ToldByRead, read_waited, told_at}
use Rattle.lite_theorems.proofs.waits.wait_read.Goals as goal

pub returns : goal.returns
returns g c =
    let h = rw c.read.ensures at (read_waited g.T.ReadSpec.read_laws _ _ (done c.wait.result) (c.wait.ensures, tt)) in
    let lends = h.1 in
    let told = told_at (ToldByRead g.T.ReadSpec.reads _ _ (done c.wait.result)) (search rules) (search rules) h.0 in
    record { told = told.0; room = told.1; bound = told.2; waited = search rules }
