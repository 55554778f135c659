use Rattle.lite_theorems.specs.Uses.{ap, done, rules}
use Rattle.lite_theorems.proofs.Waited.{ToldByExact, exact_waited, told_at}
use Rattle.lite_theorems.proofs.waits.wait_read_exact.Goals as goal

pub returns : goal.returns
returns g c =
    let begun = ap (λ z. z.filled) c.read_exact.ensures in
    let h = rw c.read_exact.ensures at (exact_waited g.T.ReadSpec.read_laws _ _ (done c.wait.result) begun (c.wait.ensures, tt)) in
    let lends = h.1 in
    let told = told_at (ToldByExact g.T.ReadSpec.reads _ _ (done c.wait.result)) (search rules) (search rules) h.0 in
    record { told = told.0; room = told.1; waited = search rules }
