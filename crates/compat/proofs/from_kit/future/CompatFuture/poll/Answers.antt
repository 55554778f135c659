use Rattle.compat.specs.Laws.FromKit.{future_ran}
use Rattle.compat.proofs.from_kit.future.CompatFuture.poll.Goals as goal

pub returns-clause-ran : goal.returns-clause-ran
returns-clause-ran g c =
    let e = c.poll.ensures in
    future_ran g.F.Future.can_poll g.F.Future.gives c.args.self.now (record c.args.self.now { inner = c.poll.new.self })
    c.poll.result e.value e.again e.same
