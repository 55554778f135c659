use Rattle.lent_frames.specs.LendingLaws.{advances_ran}
use Rattle.lent_frames.proofs.frames.Frames.poll_more.Goals as goal

pub returns-clause-advanced : goal.returns-clause-advanced
returns-clause-advanced g c = advances_ran g.C.Cutter.piece g.C.Cutter.refuses g.C.Cutter.cut_off g.T.ReadSpec.reads g.T.AsyncBufRead.buffer_of g.T.ReadSpec.read_laws c.drive.ensures.stepped
