-- Clones of one item, none of which was refused.
use Rattle.std.specs.Prelude.{⊤, Result, Ok, Err}
use Rattle.std.proofs.Common.{List, [], ◌∷◌, Some, refl}
use Rattle.std.specs.List.{AllByRecursion}
use Rattle.futures.specs.declared.task.Poll.TheVariants.{Ready}
use Rattle.lite_base.specs.Answers.{Answer}
use Rattle.lite_reshape.specs.Cloned.{NoCloneRefused}
use Rattle.lite_source.specs.Repeat.{IsCloned}

module _ {A E : Type 0} (is_clone : A → A → Type 0) (is_infallible : A → Type 0) (own : A) where
  pub clones_unrefused : (l : List (Answer (Result A E))) → NoCloneRefused l
      → AllByRecursion (IsCloned is_clone is_infallible own) l → AllByRecursion (IsCloned is_clone (λ _. ⊤) own) l
  clones_unrefused [] none h = tt
  clones_unrefused (Ready (Some (Ok v)) ∷ l) none h = (h.0, clones_unrefused l none.1 h.1)
  clones_unrefused (Ready (Some (Err e)) ∷ l) none h = absurd (none.0 e refl)
  clones_unrefused (a ∷ l) none h = absurd h.0
