use Rattle.std.specs.Prelude.{[], refl}
use Rattle.lite_future.specs.Uses.{up_to_one}
use Rattle.lite_base.specs.Laws.Pollers.{obeys_until}
use Rattle.lite_future.proofs.poll_fn.PollFnFuture.poll.Goals as goal

pub f-requires : goal.f-requires
f-requires g c = (c.requires.at [] _ tt refl _).0

pub returns-clause-ran : goal.returns-clause-ran
returns-clause-ran g c = (up_to_one c.f.result, (_, (_, _, c.f.ensures), refl))

pub returns-clause-again : goal.returns-clause-again
returns-clause-again g c = obeys_until g.F.FnMut _ _ c.f.result c.requires (_, _, c.f.ensures)

pub returns-clause-context : goal.returns-clause-context
returns-clause-context g c = (c.requires.at [] _ tt refl _).1 _ _ _ c.f.ensures
