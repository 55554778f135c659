use Rattle.std.specs.Prelude.{◌≡◌, Err, Ok, false, true}
use Rattle.std.proofs.Common.{rules, subst}
use Rattle.lent_frames.specs.Lending.{Ends}
use Rattle.lent_frames.specs.Uses.{Pending, Ready}
use Rattle.lent_frames.proofs.Lending.{answered, at_end, failed, took_more}
use Rattle.lent_frames.proofs.Shown.{no_mark, none_shown, some_shown}
use Rattle.lent_frames.proofs.frames.FramesPollSteps.poll_step.Goals as goal

pub returns-in-Ready-Ok-true-clause-stepped : goal.returns-in-Ready-Ok-true-clause-stepped
returns-in-Ready-Ok-true-clause-stepped g c =
    let p : c.look.result ≡ Pending = search rules in
    let is : c.fill.result ≡ Ready (Ok true) = search rules in
    let none = none_shown _ (rw is at c.fill.ensures.ended) in
    at_end g.C.Cutter.piece g.C.Cutter.refuses g.C.Cutter.cut_off g.T.ReadSpec.reads g.T.AsyncBufRead.buffer_of g.T.ReadSpec.read_laws c.args.self.now c.look.new.self c.last.new.self
    (rw p at c.look.ensures) c.fill.new.self.reader c.last.result (rw (is, none) at c.fill.ensures.ran)
    (subst (λ m. Ends g.C.Cutter.piece g.C.Cutter.refuses g.C.Cutter.cut_off g.T.ReadSpec.reads g.T.AsyncBufRead.buffer_of m c.last.result c.last.new.self) c.fill.ensures.rest c.last.ensures)

pub returns-in-Ready-Err-clause-stepped : goal.returns-in-Ready-Err-clause-stepped
returns-in-Ready-Err-clause-stepped g c =
    let p : c.look.result ≡ Pending = search rules in
    let is : c.fill.result ≡ Ready (Err c.in-Ready-Err.e) = rw c.in-Ready-Err.field-0-is at c.in-Ready-Err.is in
    rw c.fail.ensures.found (failed g.C.Cutter.piece g.C.Cutter.refuses g.C.Cutter.cut_off g.T.ReadSpec.reads g.T.AsyncBufRead.buffer_of g.T.ReadSpec.read_laws c.args.self.now c.look.new.self c.fail.new.self
    (rw p at c.look.ensures) c.in-Ready-Err.e (search rules) (search rules))

pub returns-in-Ready-look-clause-stepped : goal.returns-in-Ready-look-clause-stepped
returns-in-Ready-look-clause-stepped g c =
    let p : c.look.result ≡ Pending = search rules in
    let is : c.fill.result ≡ Ready (Ok false) = search rules in
    let some = some_shown _ (rw is at c.fill.ensures.ended) in
    answered g.C.Cutter.piece g.C.Cutter.refuses g.C.Cutter.cut_off g.T.ReadSpec.reads g.T.AsyncBufRead.buffer_of g.T.ReadSpec.read_laws c.args.self.now c.look.new.self c.look-2.new.self
    (rw p at c.look.ensures) _ (no_mark g.T.ReadSpec.reads _ some (rw is at c.fill.ensures.ran)) c.in-Ready-look.found
    (rw (c.fill.ensures.rest, c.in-Ready-look.is) at c.look-2.ensures)

pub returns-in-Pending-look-clause-stepped : goal.returns-in-Pending-look-clause-stepped
returns-in-Pending-look-clause-stepped g c =
    let p : c.look.result ≡ Pending = search rules in
    let is : c.fill.result ≡ Ready (Ok false) = search rules in
    let again : c.look-2.result ≡ Pending = search rules in
    let some = some_shown _ (rw is at c.fill.ensures.ended) in
    took_more g.C.Cutter.piece g.C.Cutter.refuses g.C.Cutter.cut_off g.T.ReadSpec.reads g.T.AsyncBufRead.buffer_of g.T.ReadSpec.read_laws c.args.self.now c.look.new.self c.look-2.new.self
    (rw p at c.look.ensures) _ (no_mark g.T.ReadSpec.reads _ some (rw is at c.fill.ensures.ran)) some
    (rw (c.fill.ensures.rest, again) at c.look-2.ensures)
