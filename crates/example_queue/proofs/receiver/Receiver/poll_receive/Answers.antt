use Rattle.std.proofs.Common.{◌∙◌, Ok, ap}
use Rattle.futures_lite.specs.Answers.{Pending, Ready}
use Rattle.example_queue.proofs.Turns.{receives_end, receives_pending}
use Rattle.example_queue.proofs.receiver.Receiver.poll_receive.Goals as goal

pub returns-in-Ready-None-clause-received : goal.returns-in-Ready-None-clause-received
returns-in-Ready-None-clause-received g c =
    let is = c.in-Ready-None.is ∙ ap Ready c.in-Ready-None.field-0-is in
    let got = c.loop-item.self.received.items in
    c.loop-item.invariant.1 (Ready (Ok tt)) got c.poll_next.new.self
    (receives_end got c.loop-item.queue _ (rw is at c.poll_next.ensures.ran))

pub returns-in-Pending-clause-received : goal.returns-in-Pending-clause-received
returns-in-Pending-clause-received g c =
    let got = c.loop-item.self.received.items in
    c.loop-item.invariant.1 Pending got c.poll_next.new.self
    (receives_pending got c.loop-item.queue _ (rw c.in-Pending.is at c.poll_next.ensures.ran))
