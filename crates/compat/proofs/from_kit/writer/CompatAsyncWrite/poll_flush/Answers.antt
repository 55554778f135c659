use Rattle.compat.specs.Laws.FromKit.{flush_ran}
use Rattle.compat.proofs.from_kit.writer.CompatAsyncWrite.poll_flush.Goals as goal

pub returns-clause-ran : goal.returns-clause-ran
returns-clause-ran g c =
    let e = c.poll_flush.ensures in
    let w = g.W.AsyncWrite in
    flush_ran w.writes w.is_flushed w.is_shut_down w.fails c.args.self.now (record c.args.self.now { inner = c.poll_flush.new.self }) c.poll_flush.result e.bytes e.flushed e.failed
