use Rattle.std.specs.Prelude.{◌≡◌, length}
use Rattle.framed.specs.Frames.{InHand, reading}
use Rattle.framed.proofs.framed_read.FramedRead.look.Given as goal

abbrev pub invariant-looks : goal.invariant-looks
invariant-looks g l =
    (l.self.phase ≡ reading)
    × ((a : _) (z : _) → InHand g.D.Decoder.gives g.D.Error.From.from_gives g.T.ReadSpec.reads g.T.AsyncBufRead.buffer_of l.self a z
    → InHand g.D.Decoder.gives g.D.Error.From.from_gives g.T.ReadSpec.reads g.T.AsyncBufRead.buffer_of l.fn.self a z)

abbrev pub decreases-looks : goal.decreases-looks
decreases-looks g l = length (g.T.AsyncBufRead.buffer_of l.self.reader)
