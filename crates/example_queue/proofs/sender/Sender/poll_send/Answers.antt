use Rattle.std.specs.declared.alloc.AllocError.{AllocError}
use Rattle.std.proofs.Common.{◌∙◌, Err, Ok, Some, ap, refl}
use Rattle.futures_lite.specs.Answers.{Pending, Ready}
use Rattle.example_queue.proofs.Turns.{sends_end, sends_failed, sends_more, sends_pending, stays_open}
use Rattle.example_queue.proofs.sender.Sender.poll_send.Goals as goal

pub loop-item-preserved : goal.loop-item-preserved
loop-item-preserved g c =
    let is = c.in-Ready-Some.is ∙ ap Ready c.in-Ready-Some.field-0-is in
    let taken = rw is at c.poll_item.ensures.taken in (
      c.poll_item.ensures.again,
      λ fact h. c.poll_item.ensures.context fact (c.loop-item.invariant.1 fact h),
      stays_open c.loop-item.queue c.send.new.self c.in-Ready-Some.item c.in-Ok.ensures.sent c.loop-item.invariant.2,
      λ a y r h. c.loop-item.invariant.3 a y r
          (sends_more g.met.S.Stream.laws c.loop-item.self c.poll_item.new.self y c.in-Ready-Some.item c.loop-item.queue
          c.send.new.self r a taken c.in-Ok.ensures.sent h),
    )

pub returns-in-Err-Memory-clause-sent : goal.returns-in-Err-Memory-clause-sent
returns-in-Err-Memory-clause-sent g c =
    let is = c.in-Ready-Some.is ∙ ap Ready c.in-Ready-Some.field-0-is in
    let taken = rw is at c.poll_item.ensures.taken in
    let y = record c.poll_item.new.self { held = Some c.in-Err-Memory.item } in
    let error : AllocError = record {} in
    c.loop-item.invariant.3 (Ready (Err error)) y c.send.new.self
    (sends_failed g.met.S.Stream.laws _ _ y _ c.loop-item.queue c.send.new.self error taken refl)

pub returns-in-Ready-None-clause-sent : goal.returns-in-Ready-None-clause-sent
returns-in-Ready-None-clause-sent g c =
    let is = c.in-Ready-None.is ∙ ap Ready c.in-Ready-None.field-0-is in
    c.loop-item.invariant.3 (Ready (Ok tt)) c.poll_item.new.self c.close.new.self
    (sends_end g.met.S.Stream.laws _ _ c.loop-item.queue _ (rw is at c.poll_item.ensures.taken) c.close.ensures)

pub returns-in-Pending-clause-sent : goal.returns-in-Pending-clause-sent
returns-in-Pending-clause-sent g c =
    c.loop-item.invariant.3 Pending c.poll_item.new.self c.loop-item.queue
    (sends_pending g.met.S.Stream.laws _ _ c.loop-item.queue (rw c.in-Pending.is at c.poll_item.ensures.taken))
