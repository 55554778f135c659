use Rattle.std.specs.Prelude.{Some, None}
use Rattle.lite_reshape.specs.Uses.{refl, called_at, each_here}
use Rattle.lite_reshape.proofs.PollSteps.{steps_on}
use Rattle.lite_reshape.proofs.skip_while.SkipWhilePollSteps.poll_step.Goals as goal

pub predicate-requires : goal.predicate-requires
predicate-requires g c =
    let ran = rw c.in-Ready-Some.field-0-is at c.in-Ready-Some.ensures.ran in
    let asks = rw c.in-Some.is at c.requires.2 in
    each_here asks ran refl _ refl

pub returns-then-predicate-clause-stepped : goal.returns-then-predicate-clause-stepped
returns-then-predicate-clause-stepped g c =
    let ran = rw c.in-Ready-Some.field-0-is at c.in-Ready-Some.ensures.ran in
    let called = called_at g.P.FnMut c.predicate.ensures c.if-predicate.true in
    let can = rw c.in-Some.is at c.requires in (
      steps_on {o = None} g.met.S.Stream.laws g.met.S.Counted.counting {R = g.S.Stream.can_poll c.poll_next.new.self} can
          ran (_, refl, called)
          c.poll_next.ensures.again,
      (c.in-Ready-Some.item, ran, rw c.in-Some.is (c.predicate.new.self, refl, called)),
    )

pub returns-else-predicate-clause-stepped : goal.returns-else-predicate-clause-stepped
returns-else-predicate-clause-stepped g c =
    let ran = rw c.in-Ready-Some.field-0-is at c.in-Ready-Some.ensures.ran in
    let called = called_at g.P.FnMut c.predicate.ensures c.if-predicate.false in
    let can = rw c.in-Some.is at c.requires in (
      steps_on {o = Some c.in-Ready-Some.item} g.met.S.Stream.laws g.met.S.Counted.counting
          {R = g.S.Stream.can_poll c.poll_next.new.self} can ran
          (c.predicate.new.self, refl, refl, called) c.poll_next.ensures.again,
      (_, ran, (c.in-Ready-Some.item, refl, rw c.in-Some.is (c.predicate.new.self, refl, refl, called))),
    )

pub returns-in-None-clause-stepped : goal.returns-in-None-clause-stepped
returns-in-None-clause-stepped g c =
    let ran = rw c.in-Ready-Some.field-0-is at c.in-Ready-Some.ensures.ran in (
      steps_on {o = Some c.in-Ready-Some.item} g.met.S.Stream.laws g.met.S.Counted.counting
          {R = g.S.Stream.can_poll c.poll_next.new.self} c.requires ran
          (rw c.in-None.is (refl, refl)) c.poll_next.ensures.again,
      (_, ran, (c.in-Ready-Some.item, refl, rw c.in-None.is (refl, refl))),
    )
