use Rattle.std.specs.Prelude.{[]}
use Rattle.lite_source.specs.Uses.{refl}
use Rattle.lite_base.specs.Laws.Pollers.{obeys_on}
use Rattle.lite_source.proofs.poll_fn.PollFnStream.poll_next.Goals as goal

pub f-requires : goal.f-requires
f-requires g c = (c.requires.at [] _ tt refl _).0

pub returns-clause-ran : goal.returns-clause-ran
returns-clause-ran g c = (_, (_, _, c.f.ensures), refl)

pub returns-clause-again : goal.returns-clause-again
returns-clause-again g c = obeys_on g.F.FnMut _ _ _ c.f.result (λ l w. w) c.requires (_, _, c.f.ensures)

pub returns-clause-context : goal.returns-clause-context
returns-clause-context g c = (c.requires.at [] _ tt refl _).1 _ _ _ c.f.ensures
