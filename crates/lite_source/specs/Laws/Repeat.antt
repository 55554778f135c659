-- Laws about `repeat`.
use Rattle.std.specs.Prelude.{⊤, Result, Ok, Err, ◌≡◌, List, [], ◌∷◌, Some, None}
use Rattle.lite_source.specs.Uses.{ℕ, ap, AllByRecursion, Ready, Pending, Answer, Comparable, strip, CalmLaws, NoPending, calm_both, SteadyLaws}
use Rattle.lite_source.specs.Uses.{StreamLaws}
use Rattle.lite_base.specs.Laws.StreamLaws.{runs_of}
use Rattle.lite_source.specs.Repeat.{IsCloned, Repeats, SameClones}
use Rattle.lite_source.specs.Laws.Always.{always_laws}

module _ {A E : Type 0} (is_clone : A → A → Type 0) (is_infallible : A → Type 0) where
  -- The size hint of a `repeat` bounds no items from above.
  pub repeat_laws : (least : ℕ) → StreamLaws (λ _. ⊤) (Repeats {E = E} is_clone is_infallible) (λ x hint. hint ≡ (least, None))
  repeat_laws least = always_laws _ (least, None) _

  module _ (n : (x : A) → is_infallible x) (own : A) where
    clones_found : (l : List (Answer (Result A E))) → AllByRecursion (IsCloned is_clone is_infallible own) l
        → AllByRecursion (IsCloned is_clone (λ _. ⊤) own) l
    clones_found [] h = tt
    clones_found (Ready (Some (Ok v)) ∷ l) h = (h.0, clones_found l h.1)
    clones_found (Ready (Some (Err e)) ∷ l) h = absurd (h.0 (n own))
    clones_found (a ∷ l) h = absurd h.0

  module _ (own other : A) (e : SameClones is_clone own other) where
    clones_same : (l m : List (Answer (Result A E))) → AllByRecursion (IsCloned is_clone (λ _. ⊤) own) l
        → AllByRecursion (IsCloned is_clone (λ _. ⊤) other) m → Comparable (strip l) (strip m)
    clones_same (Pending ∷ l) m h k = absurd h.0
    clones_same (Ready None ∷ l) m h k = absurd h.0
    clones_same (Ready (Some (Err x)) ∷ l) m h k = absurd (h.0 tt)
    clones_same (Ready (Some (Ok v)) ∷ l) (Pending ∷ m) h k = absurd k.0
    clones_same (Ready (Some (Ok v)) ∷ l) (Ready None ∷ m) h k = absurd k.0
    clones_same (Ready (Some (Ok v)) ∷ l) (Ready (Some (Err x)) ∷ m) h k = absurd (k.0 tt)
    clones_same (Ready (Some (Ok v)) ∷ l) (Ready (Some (Ok w)) ∷ m) h k =
        (ap (λ z. Some (Ok z)) (e v w h.0 k.0), clones_same l m h.1 k.1)
    clones_same l m h k = tt

  -- Without allocation failures, two of them are alike if all clones of one equal all clones of the other.
  pub repeat_steady : SteadyLaws (Repeats {E = E} is_clone is_infallible) (Repeats is_clone (λ _. ⊤))
      ((x : A) → is_infallible x) (λ x y. SameClones is_clone x.item y.item)
  repeat_steady =
      record {
        laws = runs_of (always_laws _ (0, None) _);
        steady = λ x y e l m x' y' h k. clones_same x.item y.item e l m h.0 k.0;
        found = λ n x y l h. (clones_found n x.item l h.0, h.1);
      }

  clones_no_pending : (own : A) (l : List (Answer (Result A E)))
      → AllByRecursion (IsCloned is_clone is_infallible own) l → NoPending l
  clones_no_pending own [] h = tt
  clones_no_pending own (Pending ∷ l) h = absurd h.0
  clones_no_pending own (Ready r ∷ l) h = clones_no_pending own l h.1

  pub repeat_calm : CalmLaws (Repeats {E = E} is_clone is_infallible) (λ x. ⊤)
  repeat_calm = calm_both (λ x y l k h. (clones_no_pending x.item l h.0, tt))
