use Rattle.std.specs.Prelude.{◌≡◌, false}
use Rattle.std.proofs.Common.{rules}
use Rattle.lent_frames.proofs.Lending.{let_go_first}
use Rattle.lent_frames.proofs.frames.Frames.look.Goals as goal

pub returns-then-is_empty : goal.returns-then-is_empty
returns-then-is_empty g c =
    let was : c.args.self.now.is_over ≡ false = search rules in
    let_go_first g.C.Cutter.piece g.C.Cutter.refuses g.C.Cutter.cut_off g.T.ReadSpec.reads g.T.AsyncBufRead.buffer_of g.T.ReadSpec.read_laws c.args.self.now c.let_go.new.self _ _ was
    c.let_go.ensures.rest c.let_go.ensures.held c.let_go.ensures.ran c.let_go.ensures.shown c.look_at_shown.ensures

pub returns-else-is_empty : goal.returns-else-is_empty
returns-else-is_empty g c =
    let was : c.args.self.now.is_over ≡ false = search rules in
    let_go_first g.C.Cutter.piece g.C.Cutter.refuses g.C.Cutter.cut_off g.T.ReadSpec.reads g.T.AsyncBufRead.buffer_of g.T.ReadSpec.read_laws c.args.self.now c.let_go.new.self _ _ was
    c.let_go.ensures.rest c.let_go.ensures.held c.let_go.ensures.ran c.let_go.ensures.shown c.look_at_held.ensures
