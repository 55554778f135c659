use Rattle.example_frames.proofs.Back.{read_known}
use Rattle.example_frames.proofs.framing.read_known.Goals as goal

pub returns-in-Ok : goal.returns-in-Ok
returns-in-Ok g c =
    let h = rw (c.new-frames.ensures, c.new-all.ensures.items) at c.read_all.ensures in
    rw h.3 (read_known g.T.ReadSpec.reads g.T.ReadSpec.known c.args.reader _ c.args.codec h.1 _ c.requires.knows h.0 h.2 (rw c.in-Ok.is at h.4))
