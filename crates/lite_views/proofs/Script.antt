-- The items of `script`; `once` shares these lemmas.
use Rattle.std.specs.Prelude.{List, [], ◌∷◌, refl, Some}
use Rattle.lite_views.specs.Uses.{ap, Ready, Pending, Answer, until_end, GivesScript, items_in}
use Rattle.lite_views.specs.Lists.{Front}
use Rattle.lite_views.specs.Views.{Fits, Fronts, ListsAs}
use Rattle.lite_views.proofs.Views.{listed}

module _ {A : Type 0} where
  pub scripted_fits : (x l y : List (Answer A)) → GivesScript x l y → Fits l (items_in (until_end x))
  scripted_fits x [] y h = tt
  scripted_fits (Pending ∷ x) (a ∷ l) y h = rw h.0 (scripted_fits x l y h.1)
  scripted_fits (Ready (Some z) ∷ x) (a ∷ l) y h = rw h.0 (refl, scripted_fits x l y h.1)
  scripted_fits _ (a ∷ l) y h = rw h.0

  pub scripted_fronts : (x l y : List (Answer A)) → GivesScript x l y → Front (items_in l) (items_in x)
  scripted_fronts x [] y h = (items_in x, refl)
  scripted_fronts [] (a ∷ l) y h = rw h.0 (scripted_fronts [] l y h.1)
  scripted_fronts (Ready (Some z) ∷ x) (a ∷ l) y h =
      let rest = scripted_fronts x l y h.1 in rw h.0 (rest.0, ap (λ k. z ∷ k) rest.1)
  scripted_fronts (_ ∷ x) (a ∷ l) y h = rw h.0 (scripted_fronts x l y h.1)

  pub script_lists : (x : List (Answer A)) → ListsAs GivesScript x (items_in (until_end x))
  script_lists x = listed GivesScript x (items_in (until_end x)) (scripted_fits x)

  pub script_fronts : (x : List (Answer A)) → Fronts GivesScript x (items_in x)
  unfolding Fronts
  script_fronts = scripted_fronts
