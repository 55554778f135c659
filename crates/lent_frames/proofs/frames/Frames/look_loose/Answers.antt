use Rattle.std.proofs.Common.{inl, refl, rules}
use Rattle.lent_frames.proofs.Lending.{found_held, refused_front, stopped}
use Rattle.lent_frames.specs.Cutting.{CutFound}
use Rattle.lent_frames.specs.declared.cut.Cut.TheVariants.{Refused, Whole}
use Rattle.lent_frames.specs.declared.frames_error.FramesError.TheVariants.{NoFrame}
use Rattle.lent_frames.proofs.frames.Frames.look_loose.Goals as goal

pub returns-in-Whole : goal.returns-in-Whole
returns-in-Whole g c =
    let cut : CutFound g.C.Cutter.piece g.C.Cutter.refuses c.self.inside.cutter c.self.inside.held.items (Whole c.in-Whole.span)
    = rw (c.in-Whole.is, c.deref.ensures.value) at c.cut.ensures in
    found_held g.C.Cutter.piece g.C.Cutter.refuses g.C.Cutter.cut_off g.T.ReadSpec.reads g.T.AsyncBufRead.buffer_of g.T.ReadSpec.read_laws c.args.self.now _ c.in-Whole.span c.requires (rw (← c.self.view_is) refl) (rw (← c.self.view_is) cut)

pub returns-in-Refused : goal.returns-in-Refused
returns-in-Refused g c =
    let cut : CutFound g.C.Cutter.piece g.C.Cutter.refuses c.self.inside.cutter c.self.inside.held.items (Refused c.in-Refused.e)
    = rw (c.in-Refused.is, c.deref.ensures.value) at c.cut.ensures in
    let all = refused_front g.C.Cutter.piece g.C.Cutter.refuses _ _ (g.T.AsyncBufRead.buffer_of c.self.inside.reader) _ cut in
    rw c.stop.ensures.found (stopped g.C.Cutter.piece g.C.Cutter.refuses g.C.Cutter.cut_off g.T.ReadSpec.reads g.T.AsyncBufRead.buffer_of g.T.ReadSpec.read_laws c.args.self.now c.stop.new.self (NoFrame c.in-Refused.e) c.requires (search rules)
    (search rules) (search rules) (search rules) (search rules) (inl (refl, (rw (c.stop.ensures.value, ← c.self.view_is) all))))
