-- Laws about `pending`.
use Rattle.std.specs.Prelude.{⊤, ◌≡◌, Some}
use Rattle.lite_source.specs.Uses.{Counting, Steadiness, StreamLaws}
use Rattle.lite_source.specs.Always.{no_ranks}
use Rattle.lite_source.specs.Pending.{GivesPendings}
use Rattle.lite_source.specs.Laws.Always.{itemless_counting, itemless_laws, pendings_strip}

module _ {S A : Type 0} where
  pub pending_laws : StreamLaws (λ _. ⊤) (GivesPendings {S = S} {A = A}) (λ x hint. hint ≡ (0, Some 0))
  pending_laws = itemless_laws _ (λ s x e. cc e)

  pub pending_counting : Counting (GivesPendings {S = S} {A = A}) no_ranks
  pending_counting = itemless_counting _ (λ s x e. cc e)

  pub pending_steady : Steadiness (GivesPendings {S = S} {A = A}) (λ x y. ⊤)
  pending_steady x y e l m x' y' h k = rw (pendings_strip l h.0) tt
