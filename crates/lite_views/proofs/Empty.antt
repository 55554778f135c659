-- `empty` has no items, as any stream that only returns its end.
use Rattle.std.specs.Prelude.{◌≡◌, List, [], ◌∷◌}
use Rattle.lite_views.specs.Uses.{AllByRecursion, Answer, end, Unchanging}
use Rattle.lite_views.specs.Views.{Fits, ListsAs}
use Rattle.lite_views.proofs.Views.{listed}

pub ended_fits : {A : Type 0} (l : List (Answer A)) → AllByRecursion (λ a. a ≡ end) l → Fits l []
ended_fits [] h = tt
ended_fits (a ∷ l) h = rw h.0

pub empty_lists : {S A : Type 0} (x : S) → ListsAs {A = A} (Unchanging (λ _ a. a ≡ end)) x []
empty_lists x = listed (Unchanging (λ _ a. a ≡ end)) x [] (λ l y h. ended_fits l h.0)
