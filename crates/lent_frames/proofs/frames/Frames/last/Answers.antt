use Rattle.std.specs.Prelude.{◌<◌, length}
use Rattle.std.proofs.Common.{refl, rules}
use Rattle.lent_frames.proofs.Lending.{ended_within}
use Rattle.lent_frames.proofs.frames.Frames.last.Goals as goal

pub returns : goal.returns
returns g c =
    let some : 0 < length c.self.inside.held.items = search rules in
    let cut = rw c.deref.ensures.value at c.at_end-error.ensures in
    rw c.stop.ensures.found (ended_within g.C.Cutter.piece g.C.Cutter.refuses g.C.Cutter.cut_off g.T.ReadSpec.reads g.T.AsyncBufRead.buffer_of c.args.self.now c.stop.new.self _ c.requires
    (rw (c.stop.ensures.value, ← c.self.view_is) refl) (rw (← c.self.view_is) some) (rw (← c.self.view_is) cut))
