use Rattle.std.specs.Prelude.{length}
use Rattle.lent_frames.specs.Lending.{AdvancesInHand, IsUnfinished}
use Rattle.lent_frames.proofs.frames.Frames.look_at_held.Given as goal

abbrev pub invariant-looks : goal.invariant-looks
invariant-looks g l =
    IsUnfinished g.C.Cutter.piece g.C.Cutter.refuses g.C.Cutter.cut_off g.T.ReadSpec.reads g.T.AsyncBufRead.buffer_of l.self
    × ((a : _) (z : _) → AdvancesInHand g.C.Cutter.piece g.C.Cutter.refuses g.C.Cutter.cut_off g.T.ReadSpec.reads g.T.AsyncBufRead.buffer_of l.self a z
    → AdvancesInHand g.C.Cutter.piece g.C.Cutter.refuses g.C.Cutter.cut_off g.T.ReadSpec.reads g.T.AsyncBufRead.buffer_of l.fn.self a z)

abbrev pub decreases-looks : goal.decreases-looks
decreases-looks g l = length (g.T.AsyncBufRead.buffer_of l.self.reader)
