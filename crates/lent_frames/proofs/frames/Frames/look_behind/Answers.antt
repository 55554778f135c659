use Rattle.std.specs.Prelude.{◌≡◌, ◌≤◌, ◌<◌, ◌+◌, ◌++◌, length, take, vec_capacity}
use Rattle.std.proofs.Common.{◌∙◌, ap, arith, inl, length-append, length-take-le, refl, rules, take_at}
use Rattle.lent_frames.specs.Cutting.{CutFound}
use Rattle.lent_frames.specs.declared.cut.Cut.TheVariants.{More, Refused, Whole}
use Rattle.lent_frames.specs.declared.frames_error.FramesError.TheVariants.{NoFrame, OutOfMemory}
use Rattle.lent_frames.proofs.Lending.{found_behind, refused_behind, size_behind, stopped, waits_behind}
use Rattle.lent_frames.proofs.frames.Frames.look_behind.Goals as goal

pub returns-then-is_err : goal.returns-then-is_err
returns-then-is_err g c =
    let shown = g.T.AsyncBufRead.buffer_of c.self.inside.reader in
    let n = c.min-taken.result in
    let fits : n ≤ length shown = search rules in
    let same : c.extend_from_slice.new.self.items ≡ c.self.inside.held.items = search rules in
    let full : vec_capacity c.self.inside.held < length c.self.inside.held.items + length (take n shown) = search rules in
    let less : vec_capacity c.self.inside.held < length (c.self.inside.held.items ++ shown) =
    omega (arith, full, fits, length-take-le n shown fits, length-append c.self.inside.held.items shown) in
    rw c.stop.ensures.found (stopped g.C.Cutter.piece g.C.Cutter.refuses g.C.Cutter.cut_off g.T.ReadSpec.reads g.T.AsyncBufRead.buffer_of g.T.ReadSpec.read_laws c.args.self.now c.stop.new.self OutOfMemory (c.requires.waits.0, c.requires.waits.1) (search rules)
    (search rules) (search rules) (search rules) (search rules) (refl, (rw (c.stop.ensures.value, same, ← c.self.view_is) less)))

pub overflow_sub-span : goal.overflow_sub-span
overflow_sub-span g c =
    let shown = g.T.AsyncBufRead.buffer_of c.self.inside.reader in
    let n = c.min-taken.result in
    let fits : n ≤ length shown = search rules in
    let held : c.extend_from_slice.new.self.items ≡ c.self.inside.held.items ++ take n shown = search rules in
    let cut : CutFound g.C.Cutter.piece g.C.Cutter.refuses c.self.inside.cutter (c.self.inside.held.items ++ take n shown)
    (Whole c.in-Whole.span) = rw (c.in-Whole.is, c.deref.ensures.value, held) at c.cut_behind.ensures in
    let waits = rw (← c.self.view_is) at c.requires.waits in
    let long : c.len-seen.result ≡ length c.self.inside.held.items = search rules in
    rw long (size_behind g.C.Cutter.piece g.C.Cutter.refuses _ _ _ c.in-Whole.span waits.2 cut)

pub returns-in-Whole : goal.returns-in-Whole
returns-in-Whole g c =
    let shown = g.T.AsyncBufRead.buffer_of c.self.inside.reader in
    let n = c.min-taken.result in
    let fits : n ≤ length shown = search rules in
    let held : c.extend_from_slice.new.self.items ≡ c.self.inside.held.items ++ take n shown = search rules in
    let cut : CutFound g.C.Cutter.piece g.C.Cutter.refuses c.self.inside.cutter (c.self.inside.held.items ++ take n shown)
    (Whole c.in-Whole.span) = rw (c.in-Whole.is, c.deref.ensures.value, held) at c.cut_behind.ensures in
    let waits = rw (← c.self.view_is) at c.requires.waits in
    let long : c.len-seen.result ≡ length c.self.inside.held.items = search rules in
    let left : c.truncate.new.self.items ≡ take c.in-Whole.span.size (c.self.inside.held.items ++ take n shown) =
    c.truncate.ensures.items ∙ ap (take c.in-Whole.span.size) held in
    found_behind g.C.Cutter.piece g.C.Cutter.refuses g.C.Cutter.cut_off g.T.ReadSpec.reads g.T.AsyncBufRead.buffer_of c.args.self.now _ n (rw (← c.self.view_is) fits) c.requires.waits c.in-Whole.span (rw (← c.self.view_is) cut)
    (rw (← c.self.view_is) (rw long at c.consume.ensures.ran)) (rw (← c.self.view_is) (rw long at c.consume.ensures.rest)) (rw (← c.self.view_is) refl) (rw (← c.self.view_is) left)
    (search rules) (search rules) refl

pub returns-in-More : goal.returns-in-More
returns-in-More g c =
    let shown = g.T.AsyncBufRead.buffer_of c.self.inside.reader in
    let n = c.min-taken.result in
    let fits : n ≤ length shown = search rules in
    let held : c.extend_from_slice.new.self.items ≡ c.self.inside.held.items ++ take n shown = search rules in
    let cut : CutFound g.C.Cutter.piece g.C.Cutter.refuses c.self.inside.cutter (c.self.inside.held.items ++ take n shown)
    (More c.in-More.least) = rw (c.in-More.is, c.deref.ensures.value, held) at c.cut_behind.ensures in
    let waits = rw (← c.self.view_is) at c.requires.waits in
    let some : 0 < n = search rules in
    waits_behind g.C.Cutter.piece g.C.Cutter.refuses g.C.Cutter.cut_off g.T.ReadSpec.reads g.T.AsyncBufRead.buffer_of c.args.self.now _ n (rw (← c.self.view_is) fits) c.requires.waits c.in-More.least some
    (rw (← c.self.view_is) c.consume-in-More.ensures.ran) (rw (← c.self.view_is) c.consume-in-More.ensures.rest) (rw (← c.self.view_is) refl) (rw (← c.self.view_is) held)
    (search rules) (search rules) (search rules) (rw (← c.self.view_is) cut)

pub returns-in-Refused : goal.returns-in-Refused
returns-in-Refused g c =
    let shown = g.T.AsyncBufRead.buffer_of c.self.inside.reader in
    let n = c.min-taken.result in
    let fits : n ≤ length shown = search rules in
    let held : c.extend_from_slice.new.self.items ≡ c.self.inside.held.items ++ take n shown = search rules in
    let cut : CutFound g.C.Cutter.piece g.C.Cutter.refuses c.self.inside.cutter (c.self.inside.held.items ++ take n shown)
    (Refused c.in-Refused.e) = rw (c.in-Refused.is, c.deref.ensures.value, held) at c.cut_behind.ensures in
    let waits = rw (← c.self.view_is) at c.requires.waits in
    let before : c.truncate-in-Refused.new.self.items ≡ c.self.inside.held.items =
    c.truncate-in-Refused.ensures.items ∙ ap (take c.len-seen.result) held
    ∙ take_at c.self.inside.held.items (take n shown) c.len-seen.result (search rules) in
    let all = rw (← c.self.view_is) at (refused_behind g.C.Cutter.piece g.C.Cutter.refuses g.C.Cutter.cut_off g.T.ReadSpec.reads g.T.AsyncBufRead.buffer_of c.args.self.now
    c.args.self.now n (rw (← c.self.view_is) fits) c.requires.waits c.in-Refused.e (rw (← c.self.view_is) cut)) in
    rw c.stop-in-Refused.ensures.found (stopped g.C.Cutter.piece g.C.Cutter.refuses g.C.Cutter.cut_off g.T.ReadSpec.reads g.T.AsyncBufRead.buffer_of g.T.ReadSpec.read_laws c.args.self.now c.stop-in-Refused.new.self (NoFrame c.in-Refused.e)
    (c.requires.waits.0, c.requires.waits.1) (search rules) (search rules) (search rules) (search rules) (search rules)
    (inl (refl, (rw (c.stop-in-Refused.ensures.value, before) all))))
