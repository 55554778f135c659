-- Laws about `unfold`.
use Rattle.std.specs.Prelude.{◌≡◌, Option}
use Rattle.lite_source.specs.Uses.{FutureLaws, Mut, Poll, RunLaws, StreamLaws, NoHint, Runs}
use Rattle.lite_source.specs.Unfold.{UnfoldsBy, item_of, seed_of}
use Rattle.lite_source.specs.Unfolding.{Holding}
use Rattle.lite_source.specs.declared.unfold.Unfold.{Unfold}
use Rattle.lite_source.specs.Laws.Unfolding.{CanUnfold, unfolds_laws, unfolds_runs}

module _ {F S V A : Type 0} (call : Mut F (S × Unit {0}) V) (gives : Runs (Poll (Option (A × S))) V) where
  pair_same : (x y : Unfold S F V) → ◌≡◌ {A = F × Holding S V} (y.f, y.state) (x.f, x.state) → y ≡ x
  pair_same x y e i = record { f = (e i).0; state = (e i).1 }

  pub unfold_runs : RunLaws (UnfoldsBy call gives)
  unfold_runs = unfolds_runs call gives seed_of item_of _ pair_same

  pub unfold_laws : {can_poll : V → Type 0} → FutureLaws can_poll gives
      → StreamLaws (λ x. CanUnfold call can_poll (x.f, x.state)) (UnfoldsBy call gives) NoHint
  unfold_laws laws = unfolds_laws call gives seed_of item_of laws _ pair_same
