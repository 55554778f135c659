use Rattle.std.specs.Prelude.{◌≡◌, Err, Ok, false, true}
use Rattle.std.proofs.Common.{rules}
use Rattle.framed.specs.Uses.{Pending, Ready}
use Rattle.lent_frames.proofs.Shown.{no_mark, none_shown, some_shown}
use Rattle.framed.proofs.Steps.{answered, at_end, failed, pended, took}
use Rattle.framed.proofs.framed_read.FramedReadPollSteps.poll_step.Goals as goal

pub returns-in-Ready-Ok-true-clause-stepped : goal.returns-in-Ready-Ok-true-clause-stepped
returns-in-Ready-Ok-true-clause-stepped g c =
    let p : c.in_hand.result ≡ Pending = search rules in
    let is : c.fill.result ≡ Ready (Ok true) = search rules in
    let none = none_shown _ (rw is at c.fill.ensures.ended) in
    at_end g.D.Decoder.gives g.D.Error.From.from_gives g.T.ReadSpec.reads g.T.ReadSpec.read_laws g.met.D.Decoder.partial_has_no_frame
    g.T.AsyncBufRead.buffer_of c.args.self.now c.in_hand.new.self c.last.new.self (rw p at c.in_hand.ensures) _ _
    (rw (is, none) at c.fill.ensures.ran) c.last.ensures.reader (rw c.fill.ensures.rest at c.last.ensures.item)

pub returns-in-Ready-Err-clause-stepped : goal.returns-in-Ready-Err-clause-stepped
returns-in-Ready-Err-clause-stepped g c =
    let p : c.in_hand.result ≡ Pending = search rules in
    let is : c.fill.result ≡ Ready (Err c.in-Ready-Err.e) = rw c.in-Ready-Err.field-0-is at c.in-Ready-Err.is in
    rw c.fail.ensures.item (failed g.D.Decoder.gives g.D.Error.From.from_gives g.T.ReadSpec.reads g.T.ReadSpec.read_laws
    g.met.D.Decoder.partial_has_no_frame g.T.AsyncBufRead.buffer_of c.args.self.now c.in_hand.new.self c.fail.new.self
    (rw p at c.in_hand.ensures) c.in-Ready-Err.e _ _ (rw is at c.fill.ensures.ran) c.from.ensures
    (rw c.fill.ensures.rest at c.fail.ensures.value))

pub returns-in-Pending-clause-stepped : goal.returns-in-Pending-clause-stepped
returns-in-Pending-clause-stepped g c =
    let p : c.in_hand.result ≡ Pending = search rules in
    let is : c.fill.result ≡ Pending = search rules in
    pended g.D.Decoder.gives g.D.Error.From.from_gives g.T.ReadSpec.reads g.T.ReadSpec.read_laws
    g.met.D.Decoder.partial_has_no_frame g.T.AsyncBufRead.buffer_of c.args.self.now c.in_hand.new.self c.fill.new.self
    (rw p at c.in_hand.ensures) _ (rw is at c.fill.ensures.ran) c.fill.ensures.rest

pub returns-in-Ready-in_hand-clause-stepped : goal.returns-in-Ready-in_hand-clause-stepped
returns-in-Ready-in_hand-clause-stepped g c =
    let p : c.in_hand.result ≡ Pending = search rules in
    let is : c.fill.result ≡ Ready (Ok false) = search rules in
    let some = some_shown _ (rw is at c.fill.ensures.ended) in
    answered g.D.Decoder.gives g.D.Error.From.from_gives g.T.ReadSpec.reads g.T.ReadSpec.read_laws
    g.met.D.Decoder.partial_has_no_frame g.T.AsyncBufRead.buffer_of c.args.self.now c.in_hand.new.self c.in_hand-2.new.self
    (rw p at c.in_hand.ensures) _ (no_mark g.T.ReadSpec.reads _ some (rw is at c.fill.ensures.ran)) c.in-Ready-in_hand.item
    (rw (c.fill.ensures.rest, c.in-Ready-in_hand.is) at c.in_hand-2.ensures)

pub returns-in-Pending-in_hand-clause-stepped : goal.returns-in-Pending-in_hand-clause-stepped
returns-in-Pending-in_hand-clause-stepped g c =
    let p : c.in_hand.result ≡ Pending = search rules in
    let is : c.fill.result ≡ Ready (Ok false) = search rules in
    let again : c.in_hand-2.result ≡ Pending = search rules in
    let some = some_shown _ (rw is at c.fill.ensures.ended) in
    took g.D.Decoder.gives g.D.Error.From.from_gives g.T.ReadSpec.reads g.T.ReadSpec.read_laws
    g.met.D.Decoder.partial_has_no_frame g.T.AsyncBufRead.buffer_of c.args.self.now c.in_hand.new.self c.in_hand-2.new.self
    (rw p at c.in_hand.ensures) _ (no_mark g.T.ReadSpec.reads _ some (rw is at c.fill.ensures.ran)) some
    (rw (c.fill.ensures.rest, again) at c.in_hand-2.ensures)
