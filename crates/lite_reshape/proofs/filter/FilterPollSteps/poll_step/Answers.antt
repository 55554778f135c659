use Rattle.lite_reshape.specs.Uses.{refl, called_at, each_here}
use Rattle.lite_reshape.proofs.PollSteps.{steps_on}
use Rattle.lite_reshape.proofs.filter.FilterPollSteps.poll_step.Goals as goal

pub predicate-requires : goal.predicate-requires
predicate-requires g c =
    let ran = rw c.in-Ready-Some.field-0-is at c.in-Ready-Some.ensures.ran in
    each_here c.requires.2 ran refl _ refl

pub returns-then-predicate-clause-stepped : goal.returns-then-predicate-clause-stepped
returns-then-predicate-clause-stepped g c =
    let ran = rw c.in-Ready-Some.field-0-is at c.in-Ready-Some.ensures.ran in
    let called = called_at g.P.FnMut c.predicate.ensures c.if-predicate.true in (
      steps_on g.met.S.Stream.laws g.met.S.Counted.counting {R = g.S.Stream.can_poll c.poll_next.new.self} c.requires ran
          called c.poll_next.ensures.again,
      (_, ran, (_, refl, (refl, called))),
    )

pub returns-else-predicate-clause-stepped : goal.returns-else-predicate-clause-stepped
returns-else-predicate-clause-stepped g c =
    let ran = rw c.in-Ready-Some.field-0-is at c.in-Ready-Some.ensures.ran in
    let called = called_at g.P.FnMut c.predicate.ensures c.if-predicate.false in (
      steps_on g.met.S.Stream.laws g.met.S.Counted.counting {R = g.S.Stream.can_poll c.poll_next.new.self} c.requires ran
          called c.poll_next.ensures.again,
      (c.in-Ready-Some.item, ran, called),
    )
