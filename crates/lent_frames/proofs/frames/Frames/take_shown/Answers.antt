use Rattle.std.specs.Prelude.{◌≡◌, ◌++◌, length}
use Rattle.std.proofs.Common.{◌∙◌, arith, rules, refl}
use Rattle.std.proofs.lemmas.List.{drop_all, take_all}
use Rattle.lent_frames.proofs.Lending.{took_all}
use Rattle.lent_frames.proofs.frames.Frames.take_shown.Goals as goal

pub returns : goal.returns
returns g c =
    let shown = g.T.AsyncBufRead.buffer_of c.self.inside.reader in
    let came = rw (c.buffer-shown.ensures, take_all (length shown) shown (omega arith)) at c.consume.ensures.ran in
    let left = rw c.buffer-shown.ensures at c.consume.ensures.rest in
    let empty = left ∙ drop_all (length shown) shown (omega arith) in
    let held : c.extend_from_slice.new.self.items ≡ c.self.inside.held.items ++ shown = search rules in
    took_all g.C.Cutter.piece g.C.Cutter.refuses g.C.Cutter.cut_off g.T.ReadSpec.reads g.T.AsyncBufRead.buffer_of c.args.self.now _ c.args.least c.requires.resting c.requires.none (rw (← c.self.view_is) came) empty (rw (← c.self.view_is) refl) (rw (← c.self.view_is) held)
    (rw (← c.self.view_is) c.extend_from_slice.ensures.capacity) (search rules) (search rules) c.requires.less c.requires.undecided
