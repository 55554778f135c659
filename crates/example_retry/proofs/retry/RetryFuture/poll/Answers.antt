use Rattle.std.proofs.Common.{◌∙◌, ap, inr}
use Rattle.futures_lite.specs.Answers.{Ready}
use Rattle.example_retry.proofs.Polls.{polled_fails, polled_last}
use Rattle.example_retry.specs.RetryLaws.{fails_before}
use Rattle.example_retry.proofs.retry.RetryFuture.poll.Goals as goal

pub returns-then-self-clause-ran : goal.returns-then-self-clause-ran
returns-then-self-clause-ran g c =
    let polled = rw (c.in-Ready-Err.is, c.in-Ready-Err.field-0-is) at c.poll_attempt.ensures.polled in
    inr (c.loop-error.invariant.2 _ _ (polled_last g.M.FnMut g.F.Future.run _ _ _ polled c.if-self.true))

pub loop-error-preserved : goal.loop-error-preserved
loop-error-preserved g c =
    let is = c.in-Ready-Err.is ∙ ap Ready c.in-Ready-Err.field-0-is in
    let fails = polled_fails g.M.FnMut g.F.Future.run _ _ _ _ is c.poll_attempt.ensures.polled c.if-self.false in (
      c.poll_attempt.ensures.again,
      λ fact h. c.poll_attempt.ensures.context fact (c.loop-error.invariant.1 fact h),
      λ a z h. c.loop-error.invariant.2 a z (fails_before g.M.FnMut fails h),
    )

pub returns-in-Ready-Ok-clause-ran : goal.returns-in-Ready-Ok-clause-ran
returns-in-Ready-Ok-clause-ran g c =
    let is = c.in-Ready-Ok.is ∙ ap Ready c.in-Ready-Ok.field-0-is in
    inr (c.loop-error.invariant.2 _ _
    (polled_last g.M.FnMut g.F.Future.run _ _ _ (rw is at c.poll_attempt.ensures.polled) tt))

pub returns-in-Pending-clause-ran : goal.returns-in-Pending-clause-ran
returns-in-Pending-clause-ran g c =
    inr (c.loop-error.invariant.2 _ _
    (polled_last g.M.FnMut g.F.Future.run _ _ _ (rw c.in-Pending.is at c.poll_attempt.ensures.polled) tt))
