use Rattle.lite_base.specs.Laws.FutureLaws.{goes_again}
use Rattle.lite_base.specs.Laws.StreamLaws.{runs_of}
use Rattle.compat.specs.Laws.ToKit.{yields_again, yields_rest}
use Rattle.compat.proofs.to_kit.stream.CompatStream.poll_next.Goals as goal

pub returns-in-Ready-clause-rest : goal.returns-in-Ready-clause-rest
returns-in-Ready-clause-rest g c = yields_rest (runs_of g.met.S.Stream.laws) _ _ _ c.in-Ready.ensures.ran

pub returns-in-Pending-clause-same : goal.returns-in-Pending-clause-same
returns-in-Pending-clause-same g c =
    goes_again c.register.result (yields_again (runs_of g.met.S.Stream.laws) _ _ c.in-Pending.ensures.ran)
