use Rattle.compat.specs.Laws.Collected.{step_yields}
use Rattle.compat.specs.ToKit.{YieldsUpTo}
use Rattle.compat.proofs.laws.stream_comes_back.Goals as goal

pub returns : goal.returns
returns g c x y l xs last rest running h e =
    step_yields (λ k. g.S.Stream.can_poll k.inner) (λ k. YieldsUpTo g.S.Stream.run k.inner) x y l xs last rest running h e
