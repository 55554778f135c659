-- The item of `once`.
use Rattle.std.specs.Prelude.{[], ◌∷◌, Some}
use Rattle.lite_source.specs.Once.{GivesOnce, once_left}
use Rattle.lite_views.specs.Answering.{AtOnce}
use Rattle.lite_views.specs.Views.{Fronts, ListsAs}
use Rattle.lite_views.proofs.Views.{listed}
use Rattle.lite_views.proofs.Script.{scripted_fits, scripted_fronts}

module _ {A : Type 0} where
  module _ (x : A) where
    pub once_lists : ListsAs GivesOnce (record { value = Some x }) (x ∷ [])
    once_lists =
        listed GivesOnce (record { value = Some x }) (x ∷ [])
        (λ l y. scripted_fits (once_left (Some x)) l (once_left y.value))

    pub once_at_once : AtOnce GivesOnce (record { value = Some x }) (Some x)
    unfolding AtOnce
    once_at_once a l y h = h.0

    pub once_fronts : Fronts GivesOnce (record { value = Some x }) (x ∷ [])
    unfolding Fronts
    once_fronts l y = scripted_fronts (once_left (Some x)) l (once_left y.value)
