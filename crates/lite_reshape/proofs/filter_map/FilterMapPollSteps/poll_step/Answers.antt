use Rattle.lite_reshape.specs.Uses.{refl, each_here}
use Rattle.lite_base.specs.Laws.EachItem.{each_end}
use Rattle.lite_reshape.proofs.PollSteps.{steps_on}
use Rattle.lite_reshape.proofs.filter_map.FilterMapPollSteps.poll_step.Goals as goal

pub f-requires : goal.f-requires
f-requires g c =
    let ran = rw c.in-Ready-Some.field-0-is at c.in-Ready-Some.ensures.ran in
    each_here c.requires.2 ran refl

pub returns-in_err-value-in-Ready-Some-clause-stepped : goal.returns-in_err-value-in-Ready-Some-clause-stepped
returns-in_err-value-in-Ready-Some-clause-stepped g c =
    let ran = rw c.in-Ready-Some.field-0-is at c.in-Ready-Some.ensures.ran in (
      steps_on g.met.S.Stream.laws g.met.S.Counted.counting {R = g.S.Stream.can_poll c.poll_next.new.self} c.requires ran
          c.f.ensures c.poll_next.ensures.again,
      rw c.from_residual.ensures (c.in-Ready-Some.item, ran, c.in_err-value-in-Ready-Some.ensures),
    )

pub returns-in_ok-value-in-Ready-Some-clause-stepped : goal.returns-in_ok-value-in-Ready-Some-clause-stepped
returns-in_ok-value-in-Ready-Some-clause-stepped g c =
    let ran = rw c.in-Ready-Some.field-0-is at c.in-Ready-Some.ensures.ran in (
      steps_on g.met.S.Stream.laws g.met.S.Counted.counting {R = g.S.Stream.can_poll c.poll_next.new.self} c.requires ran
          c.f.ensures c.poll_next.ensures.again,
      (_, ran, (_, refl, c.in_ok-value-in-Ready-Some.ensures)),
    )

pub returns-in-Ready-None-clause-stepped : goal.returns-in-Ready-None-clause-stepped
returns-in-Ready-None-clause-stepped g c =
    let ran = rw c.in-Ready-None.field-0-is at c.in-Ready-None.ensures.ran in
    let counts = g.met.S.Counted.counting.counts_on _ _ _ c.requires.1 ran in
    let more = each_end _ _ _ g.met.S.Stream.laws.follows _ _ _ c.requires.2 ran in
    ((c.poll_next.ensures.again, counts, more), (_, ran, (refl, refl)))
