use Rattle.std.specs.Prelude.{◌≡◌}
use Rattle.lite_reshape.specs.Uses.{end}
use Rattle.lite_reshape.specs.Laws.Flatten.{ended_step}
use Rattle.lite_reshape.proofs.inner.poll_part.Goals as goal

pub returns-in-Ready-None-clause-stepped : goal.returns-in-Ready-None-clause-stepped
returns-in-Ready-None-clause-stepped g c =
    let is : c.poll_next.result ≡ end = cc in
    rw c.in-Some.is
    (ended_step g.B.Stream.run g.S.Stream.run _ _ _ c.poll_outer.result (c.poll_outer.new.stream, c.poll_outer.new.inner_stream)
    (rw is at c.poll_next.ensures.ran) c.poll_outer.ensures.stepped)
