use Rattle.std.specs.Prelude.{◌≡◌, [], refl}
use Rattle.std.proofs.Common.{rules}
use Rattle.framed.proofs.framed_read.FramedRead.new.Goals as goal

pub invariant_of-result : goal.invariant_of-result
invariant_of-result g c =
    let empty : c.new.result.items ≡ [] = search rules in
    (g.T.AsyncBufRead.buffer_of c.args.reader, rw empty refl)
