use Rattle.std.specs.Prelude.{◌≡◌, [], ◌∷◌, ◌++◌, refl}
use Rattle.lite_base.specs.Uses.{rules, Ready, Pending}
use Rattle.lite_base.specs.Laws.Answers.{waiting_gives, waiting_waiting}
use Rattle.lite_base.proofs.future.waits.Waits.wait_for.Goals as goal

pub returns-in-Ready : goal.returns-in-Ready
returns-in-Ready g c =
    let waited = c.polls.invariant.waited in
    let e : c.poll.result ≡ Ready c.in-Ready.value = search rules in
    let last = rw e at c.poll.ensures.ran in (
      _,
      waiting_gives waited.0 _ _ waited.1 (refl, refl),
      g.met.F.Future.laws.follows _ _ _ _ _ waited.1 waited.2 last,
    )

pub polls-preserved : goal.polls-preserved
polls-preserved g c =
    let waited = c.polls.invariant.waited in
    let e : c.poll.result ≡ Pending = search rules in
    let next = rw e at c.poll.ensures.ran in
    record {
      goes_on = search rules;
      ready = rw e at c.poll.ensures.again;
      waited = (
        waited.0 ++ Pending ∷ [],
        waiting_waiting waited.0 _ waited.1 tt,
        g.met.F.Future.laws.follows _ _ _ _ _ waited.1 waited.2 next,
      );
    }
