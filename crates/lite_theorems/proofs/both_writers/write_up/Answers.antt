use Rattle.lite_theorems.specs.Uses.{HandedUp, subst}
use Rattle.lite_theorems.proofs.BothWriters.{flush_after}
use Rattle.lite_theorems.proofs.both_writers.write_up.Goals as goal

pub returns-in-Ok : goal.returns-in-Ok
returns-in-Ok g c =
    let one = c.in_ok-wait_write_all.ensures.took in
    let two = c.wait_flush.ensures.took in
    let handed = subst (λ v. HandedUp c.args.bytes.now one.0 v) c.in-Ok.is one.2 in
    flush_after g.T.WriteSpec.write_laws _ _ _ _ one.0 two.0 _ one.1.0 two.1 handed.0 handed.1 two.2 two.3
