use Rattle.lite_base.specs.Laws.FutureLaws.{goes_again}
use Rattle.compat.specs.Laws.ToKit.{finishes_again}
use Rattle.compat.proofs.to_kit.future.CompatFuture.poll.Goals as goal

pub returns-in-Pending-clause-same : goal.returns-in-Pending-clause-same
returns-in-Pending-clause-same g c =
    goes_again c.register.result (finishes_again g.met.F.Future.laws _ _ c.in-Pending.ensures.ran)
