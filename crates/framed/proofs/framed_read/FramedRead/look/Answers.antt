use Rattle.std.specs.Prelude.{◌≡◌, []}
use Rattle.std.proofs.Common.{rules}
use Rattle.framed.specs.Uses.{Pending, Ready}
use Rattle.lent_frames.proofs.Shown.{none_shown}
use Rattle.framed.proofs.Steps.{looked_all, looked_on}
use Rattle.framed.proofs.framed_read.FramedRead.look.Goals as goal

pub returns-in-Ready : goal.returns-in-Ready
returns-in-Ready g c =
    c.looks.invariant.1 (Ready c.in-Ready.item) c.look_once.new.self (rw c.in-Ready.is at c.look_once.ensures)

pub returns-then-is_empty-2 : goal.returns-then-is_empty-2
returns-then-is_empty-2 g c =
    let p : c.look_once.result ≡ Pending = search rules in
    let none : g.T.AsyncBufRead.buffer_of c.look_once.new.self.reader ≡ [] = none_shown _ (search rules) in
    c.looks.invariant.1 Pending c.look_once.new.self
    (looked_all g.D.Decoder.gives g.D.Error.From.from_gives g.T.ReadSpec.reads g.T.ReadSpec.read_laws g.met.D.Decoder.partial_has_no_frame
    g.T.AsyncBufRead.buffer_of c.looks.self c.look_once.new.self c.looks.invariant.0 (rw p at c.look_once.ensures) none)

pub looks-preserved : goal.looks-preserved
looks-preserved g c =
    let p : c.look_once.result ≡ Pending = search rules in
    let h = rw p at c.look_once.ensures in (
      h.4.0,
      λ a z k. c.looks.invariant.1 a z
          (looked_on g.D.Decoder.gives g.D.Error.From.from_gives g.T.ReadSpec.reads g.T.ReadSpec.read_laws g.met.D.Decoder.partial_has_no_frame
          g.T.AsyncBufRead.buffer_of c.looks.self c.look_once.new.self c.looks.invariant.0 h a z k),
    )
