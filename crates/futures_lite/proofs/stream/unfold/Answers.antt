use Rattle.std.specs.Prelude.{[], ◌∷◌}
use Rattle.futures_lite.specs.Futures.{future_runs_of}
use Rattle.futures_lite.specs.Uses.{refl}
use Rattle.lite_views.proofs.Unfold.{unfolded_lists}
use Rattle.futures_lite.proofs.stream.unfold.Goals as goal

pub returns-clause-lists : goal.returns-clause-lists
returns-clause-lists g c =
    rw c.unfold.ensures (
      λ x xs makes. unfolded_lists _ _ (future_runs_of g.met.Fut.Future.laws) _ _ (x ∷ xs) refl makes,
      λ makes. unfolded_lists _ _ (future_runs_of g.met.Fut.Future.laws) _ _ [] refl makes,
    )
