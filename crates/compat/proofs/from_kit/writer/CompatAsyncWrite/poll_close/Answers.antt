use Rattle.compat.specs.Laws.FromKit.{close_ran}
use Rattle.compat.proofs.from_kit.writer.CompatAsyncWrite.poll_close.Goals as goal

pub returns-clause-ran : goal.returns-clause-ran
returns-clause-ran g c =
    let e = c.poll_shutdown.ensures in
    let w = g.W.AsyncWrite in
    close_ran w.writes w.is_flushed w.is_shut_down w.fails c.args.self.now (record c.args.self.now { inner = c.poll_shutdown.new.self }) c.poll_shutdown.result e.bytes e.shut_down e.failed
