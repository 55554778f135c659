-- Laws about `try_unfold`.
use Rattle.std.specs.Prelude.{◌≡◌, Option, Result}
use Rattle.lite_source.specs.Uses.{FutureLaws, Mut, Poll, RunLaws, StreamLaws, NoHint, Runs}
use Rattle.lite_source.specs.TryUnfold.{TryUnfoldsBy, try_item_of, try_seed_of}
use Rattle.lite_source.specs.Unfolding.{Holding}
use Rattle.lite_source.specs.declared.try_unfold.TryUnfold.{TryUnfold}
use Rattle.lite_source.specs.Laws.Unfolding.{CanUnfold, unfolds_laws, unfolds_runs}

module _ {F S V A E : Type 0} (call : Mut F (S × Unit {0}) V) (gives : Runs (Poll (Result (Option (A × S)) E)) V) where
  pair_same : (x y : TryUnfold S F V) → ◌≡◌ {A = F × Holding S V} (y.f, y.state) (x.f, x.state) → y ≡ x
  pair_same x y e i = record { f = (e i).0; state = (e i).1 }

  pub try_unfold_runs : RunLaws (TryUnfoldsBy call gives)
  try_unfold_runs = unfolds_runs call gives try_seed_of try_item_of _ pair_same

  pub try_unfold_laws : {can_poll : V → Type 0} → FutureLaws can_poll gives
      → StreamLaws (λ x. CanUnfold call can_poll (x.f, x.state)) (TryUnfoldsBy call gives) NoHint
  try_unfold_laws laws = unfolds_laws call gives try_seed_of try_item_of laws _ pair_same
