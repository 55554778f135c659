use Rattle.std.specs.Prelude.{◌≡◌, Ok}
use Rattle.std.proofs.Common.{inr, rules}
use Rattle.framed.specs.Uses.{Pending}
use Rattle.framed.proofs.server.take.Goals as goal

pub returns-clause-taken : goal.returns-clause-taken
returns-clause-taken g c =
    let p : c.in_hand.result ≡ Pending = search rules in
    let is : c.flush_by.result ≡ Ok tt = search rules in
    inr (c.in_hand.new.self, rw p at c.in_hand.ensures, rw is at c.flush_by.ensures, c.frame_by.ensures.told)
