use Rattle.compat.specs.Laws.FromKit.{write_ran}
use Rattle.compat.proofs.from_kit.writer.CompatAsyncWrite.poll_write.Goals as goal

pub returns-clause-ran : goal.returns-clause-ran
returns-clause-ran g c =
    let e = c.poll_write.ensures in
    let w = g.W.AsyncWrite in
    write_ran w.writes w.is_flushed w.is_shut_down w.fails c.args.self.now (record c.args.self.now { inner = c.poll_write.new.self }) c.poll_write.result c.args.buf.now
    e.bytes e.failed
