use Rattle.std.proofs.Common.{◌-◌, [], ◌∷◌}
use Rattle.futures_lite.specs.Answers.{Poll}
use Rattle.futures_lite.specs.Contexts.{Keeps}
use Rattle.example_retry.specs.Retry.{MayRetry, Retried}
use Rattle.example_retry.specs.declared.retry.Retry.{Retry}
use Rattle.example_retry.proofs.retry.RetryFuture.poll.Given as goal

abbrev pub invariant-loop-error : goal.invariant-loop-error
invariant-loop-error g l =
    MayRetry g.M.FnMut (goal.M-IsAlwaysCallable g) g.F.Future.can_poll l.self × Keeps l.initial.cx l.cx
    × ((a : Poll _) (z : Retry _ _) → Retried g.M.FnMut g.F.Future.run l.self (a ∷ []) z
    → Retried g.M.FnMut g.F.Future.run l.initial.self (a ∷ []) z)

abbrev pub decreases-loop-error : goal.decreases-loop-error
decreases-loop-error g l = l.self.last - l.self.number
