use Rattle.example_redis.specs.Laws.Commands.{not_performed}
use Rattle.example_redis.specs.Store.{held}
use Rattle.example_redis.proofs.store.Store.refuse_in_transaction.Goals as goal

pub returns-in_ok-outcome-in-Exec : goal.returns-in_ok-outcome-in-Exec
returns-in_ok-outcome-in-Exec c =
    let said = c.in_ok-outcome-in-Exec.ensures (held c.args.self.now) in
    rw c.in-Exec.is (said.0, said.1, c.set_refusing.ensures)

pub returns-in-Quit : goal.returns-in-Quit
returns-in-Quit c = rw c.in-Quit.is (c.quit.ensures (held c.args.self.now))

pub returns-in-Web : goal.returns-in-Web
returns-in-Web c = rw c.in-Web.is (c.hang_up.ensures (held c.args.self.now))

pub returns-in_default : goal.returns-in_default
returns-in_default c =
    let h = held c.args.self.now in
    let arm = c.in_default in
    not_performed h h c.args.verb _ arm.not-Exec arm.not-Discard arm.not-Quit arm.not-Web (c.error-in_default.ensures h)
