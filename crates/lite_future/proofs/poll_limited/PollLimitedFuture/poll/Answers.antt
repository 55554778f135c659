use Rattle.std.specs.Prelude.{◌≡◌, [], ◌∷◌, refl}
use Rattle.lite_future.specs.Uses.{Pending, Ready}
use Rattle.std.proofs.Common.{rules}
use Rattle.lite_future.specs.Laws.PollLimited.{poll_last, poll_over, poll_value, poll_waits}
use Rattle.lite_future.proofs.poll_limited.PollLimitedFuture.poll.Goals as goal

pub returns-then-self-eq0-clause-ran : goal.returns-then-self-eq0-clause-ran
returns-then-self-eq0-clause-ran g c =
    ([], g.met.F.Future.laws.rests c.args.self.now.inner, poll_over _ _ (search rules))

pub returns-then-self-eq0-2-clause-ran : goal.returns-then-self-eq0-2-clause-ran
returns-then-self-eq0-2-clause-ran g c =
    let is : c.poll.result ≡ Pending = search rules in
    (Pending ∷ [], rw is at c.poll.ensures.ran, poll_last _ _ _ (search rules) refl (search rules))

pub returns-in-Ready-clause-ran : goal.returns-in-Ready-clause-ran
returns-in-Ready-clause-ran g c =
    let is : c.poll.result ≡ Ready c.in-Ready.value = search rules in
    (Ready c.in-Ready.value ∷ [], rw is at c.poll.ensures.ran, poll_value _ _ (search rules))

pub returns-else-self-eq0-2-clause-ran : goal.returns-else-self-eq0-2-clause-ran
returns-else-self-eq0-2-clause-ran g c =
    let is : c.poll.result ≡ Pending = search rules in
    (Pending ∷ [], rw is at c.poll.ensures.ran, poll_waits _ _ refl (search rules))
