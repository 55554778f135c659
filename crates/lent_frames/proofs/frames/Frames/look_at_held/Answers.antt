use Rattle.std.specs.Prelude.{◌≡◌, []}
use Rattle.std.proofs.Common.{rules}
use Rattle.lent_frames.specs.Uses.{Pending, Ready}
use Rattle.lent_frames.proofs.Lending.{looked_on, still_waits}
use Rattle.lent_frames.proofs.Shown.{none_shown}
use Rattle.lent_frames.proofs.frames.Frames.look_at_held.Goals as goal

pub returns-then-is_empty : goal.returns-then-is_empty
returns-then-is_empty g c =
    let none : g.T.AsyncBufRead.buffer_of c.self.inside.reader ≡ [] = none_shown _ (search rules) in
    c.looks.invariant.1 Pending c.looks.self (still_waits g.C.Cutter.piece g.C.Cutter.refuses g.C.Cutter.cut_off g.T.ReadSpec.reads g.T.AsyncBufRead.buffer_of g.T.ReadSpec.read_laws c.looks.self
    c.looks.invariant.0 (rw (← c.self.view_is) none))

pub returns-in-Ready-look_behind : goal.returns-in-Ready-look_behind
returns-in-Ready-look_behind g c =
    c.looks.invariant.1 (Ready c.in-Ready-look_behind.found) c.look_behind.new.self (rw c.in-Ready-look_behind.is at c.look_behind.ensures)

pub looks-preserved : goal.looks-preserved
looks-preserved g c =
    let p : c.look_behind.result ≡ Pending = search rules in
    let h = rw p at c.look_behind.ensures in (
      h.3,
      λ a z k. c.looks.invariant.1 a z
          (looked_on g.C.Cutter.piece g.C.Cutter.refuses g.C.Cutter.cut_off g.T.ReadSpec.reads g.T.AsyncBufRead.buffer_of g.T.ReadSpec.read_laws c.looks.self c.look_behind.new.self c.looks.invariant.0 h a z k),
    )
