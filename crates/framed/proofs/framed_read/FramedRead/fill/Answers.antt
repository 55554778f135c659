use Rattle.std.specs.Prelude.{◌≡◌, []}
use Rattle.std.proofs.Common.{rules}
use Rattle.framed.proofs.Steps.{still_in_step}
use Rattle.framed.proofs.framed_read.FramedRead.fill.Goals as goal

pub invariant_of-self : goal.invariant_of-self
invariant_of-self g c =
    let none : g.T.AsyncBufRead.buffer_of c.self.inside.reader ≡ [] = search rules in
    still_in_step g.D.Decoder.gives _ c.self.inside.stage c.self.inside.buffer.items _ _ none c.self.invariant
