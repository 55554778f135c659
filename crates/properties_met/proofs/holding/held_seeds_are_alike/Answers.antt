use Rattle.lite_source.specs.Laws.Unfolded.{unfold_alike}
use Rattle.lite_source.specs.TryUnfold.{try_item_of, try_seed_of}
use Rattle.lite_source.specs.Unfold.{item_of, seed_of}
use Rattle.properties_met.proofs.holding.held_seeds_are_alike.Goals as goal

pub returns-clause-unfold : goal.returns-clause-unfold
returns-clause-unfold g c =
    unfold_alike g.Fut.SteadyFuture.same g.Fut.SteadyFuture.alike _ seed_of item_of _ _ c.requires.unfolds
    c.requires.future c.requires.both.0 c.requires.both.1

pub returns-clause-try_unfold : goal.returns-clause-try_unfold
returns-clause-try_unfold g c =
    let both = c.requires.try_both in
    unfold_alike g.Fut2.SteadyFuture.same g.Fut2.SteadyFuture.alike _ try_seed_of try_item_of _ _ c.requires.tries
    c.requires.trying both.0 both.1
