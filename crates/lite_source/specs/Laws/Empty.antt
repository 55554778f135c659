-- Laws about `empty`.
use Rattle.std.specs.Prelude.{⊤, ◌≡◌, Some, None}
use Rattle.lite_source.specs.Uses.{refl, CalmLaws, calm_both, Counting, Steadiness, StreamLaws}
use Rattle.lite_source.specs.Always.{no_ranks}
use Rattle.lite_source.specs.Empty.{GivesEnds}
use Rattle.lite_source.specs.Laws.Always.{answers_no_pending, answers_same, itemless_counting, itemless_laws}

module _ {S A : Type 0} where
  pub empty_laws : StreamLaws (λ _. ⊤) (GivesEnds {S = S} {A = A}) (λ x hint. hint ≡ (0, Some 0))
  empty_laws = itemless_laws _ (λ s x e. cc e)

  pub empty_counting : Counting (GivesEnds {S = S} {A = A}) no_ranks
  empty_counting = itemless_counting _ (λ s x e. cc e)

  pub empty_steady : Steadiness (GivesEnds {S = S} {A = A}) (λ x y. ⊤)
  empty_steady x y e l m x' y' h k = answers_same None _ refl l m h.0 k.0

  pub empty_calm : CalmLaws (GivesEnds {S = S} {A = A}) (λ x. ⊤)
  empty_calm = calm_both (λ x y l k h. (answers_no_pending None l h.0, tt))
