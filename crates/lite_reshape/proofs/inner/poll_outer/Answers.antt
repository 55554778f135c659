use Rattle.std.specs.Prelude.{[]}
use Rattle.lite_reshape.specs.Laws.Flatten.{to_come}
use Rattle.lite_reshape.proofs.inner.poll_outer.Goals as goal

pub returns-in-Ready-Some-clause-again : goal.returns-in-Ready-Some-clause-again
returns-in-Ready-Some-clause-again g c =
    let ran = rw c.in-Ready-Some.field-0-is at c.in-Ready-Some.ensures.ran in
    let more = to_come g.met.S.Stream.laws _ _ _ _ c.requires.can.2 c.poll_next.ensures.ran in
    let counts = g.met.S.Counted.counting.counts_on _ _ _ c.requires.can.1 c.poll_next.ensures.ran in
    (c.poll_next.ensures.again, counts, (c.requires.can.2.1 _ [] [] c.in-Ready-Some.inner ran, more))

pub returns-in-Ready-None-clause-again : goal.returns-in-Ready-None-clause-again
returns-in-Ready-None-clause-again g c =
    let more = to_come g.met.S.Stream.laws _ _ _ _ c.requires.can.2 c.poll_next.ensures.ran in (
      c.poll_next.ensures.again,
      g.met.S.Counted.counting.counts_on _ _ _ c.requires.can.1 c.poll_next.ensures.ran,
      (c.requires.can.2.0, more),
    )

pub returns-in-Pending-clause-again : goal.returns-in-Pending-clause-again
returns-in-Pending-clause-again g c =
    let more = to_come g.met.S.Stream.laws _ _ _ _ c.requires.can.2 c.poll_next.ensures.ran in (
      c.poll_next.ensures.again,
      g.met.S.Counted.counting.counts_on _ _ _ c.requires.can.1 c.poll_next.ensures.ran,
      (c.requires.can.2.0, more),
    )
