use Rattle.std.proofs.Common.{◌∙◌, ap, refl}
use Rattle.futures_lite.specs.Answers.{Ready}
use Rattle.example_queue.proofs.Both.{done_step, waits_step}
use Rattle.example_queue.proofs.transfer.TransferFuture.poll.Goals as goal

pub returns-in-Ready-Ok-clause-ran : goal.returns-in-Ready-Ok-clause-ran
returns-in-Ready-Ok-clause-ran g c =
    let is = c.in-Ready-Ok.is ∙ ap Ready c.in-Ready-Ok.field-0-is in
    done_step g.S.Stream.run c.args.self.now c.receive.new.self c.poll_send.new.self c.poll_send.new.queue c.requires.1
    c.receive.ensures.sender c.receive.result (rw is at c.poll_send.ensures.sent) c.receive.ensures.received

pub returns-in-Ready-Err-clause-ran : goal.returns-in-Ready-Err-clause-ran
returns-in-Ready-Err-clause-ran g c =
    let is = c.in-Ready-Err.is ∙ ap Ready c.in-Ready-Err.field-0-is in
    (refl, (_, rw is at c.poll_send.ensures.sent, refl))

pub returns-in-Pending-clause-ran : goal.returns-in-Pending-clause-ran
returns-in-Pending-clause-ran g c =
    let next = c.receive-in-Pending in
    waits_step g.S.Stream.run c.args.self.now next.new.self c.poll_send.new.self c.poll_send.new.queue c.requires.1
    next.ensures.sender next.result (rw c.in-Pending.is at c.poll_send.ensures.sent) next.ensures.received
