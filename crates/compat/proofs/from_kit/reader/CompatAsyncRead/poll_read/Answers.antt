use Rattle.std.proofs.Common.{rules}
use Rattle.compat.specs.Laws.FromKit.{read_ran}
use Rattle.compat.proofs.from_kit.reader.CompatAsyncRead.poll_read.Goals as goal

pub returns-clause-ran : goal.returns-clause-ran
returns-clause-ran g c =
    let e = c.poll_read.ensures in
    read_ran c.args.self.now (record c.args.self.now { inner = c.poll_read.new.self }) c.poll_read.result c.poll_read.new.buf
    e.bound e.bytes (λ is some. e.end is (search rules)) e.failed
