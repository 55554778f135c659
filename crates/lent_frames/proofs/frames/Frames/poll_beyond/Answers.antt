use Rattle.std.specs.Prelude.{◌≡◌}
use Rattle.std.proofs.Common.{rules}
use Rattle.lent_frames.specs.Uses.{Pending}
use Rattle.lent_frames.proofs.Lending.{then_advances}
use Rattle.lent_frames.proofs.frames.Frames.poll_beyond.Goals as goal

pub returns-clause-advanced : goal.returns-clause-advanced
returns-clause-advanced g c =
    let p : c.look.result ≡ Pending = search rules in
    then_advances g.C.Cutter.piece g.C.Cutter.refuses g.C.Cutter.cut_off g.T.ReadSpec.reads g.T.AsyncBufRead.buffer_of g.T.ReadSpec.read_laws c.args.self.now c.look.new.self c.poll_more.new.self
    (rw p at c.look.ensures) c.poll_more.result c.poll_more.ensures.advanced
