-- Laws about `once`.
use Rattle.std.specs.Prelude.{⊤, ◌≡◌, length, Option, Some, None}
use Rattle.lite_source.specs.Uses.{refl, CalmLaws, NoPending, calm_both, same_hint, Counting, number_counting, Steadiness, StreamLaws}
use Rattle.lite_source.specs.Once.{GivesOnce, once_left, once_ranks}
use Rattle.lite_source.specs.Laws.Script.{gives_bounded, gives_calm, gives_follow, gives_lowers, gives_steady}

module _ {A : Type 0} where
  held_same : (a b : Option A) → once_left b ≡ once_left a → b ≡ a
  held_same None None e = refl
  held_same (Some x) (Some y) e = cc
  held_same a b e = cc

  pub once_laws : StreamLaws (λ _. ⊤) (GivesOnce {A = A})
      (λ x hint. hint ≡ (length (once_left x.value), Some (length (once_left x.value))))
  once_laws =
      record {
        rests = λ x. refl;
        stays = λ x y h i. record { value = held_same x.value y.value h i };
        follows = λ x y z. gives_follow (once_left x.value) (once_left y.value) (once_left z.value);
        bounded = λ x y hint l e h. same_hint hint (length (once_left x.value), Some _) l e
            (gives_bounded (once_left x.value) (once_left y.value) l h);
        polls_on = λ x y l c h. tt;
      }

  pub once_counting : Counting (GivesOnce {A = A}) once_ranks
  once_counting = number_counting (λ x y. gives_lowers (once_left x.value) (once_left y.value))

  held_no_pending : (a : Option A) → NoPending (once_left a)
  held_no_pending None = tt
  held_no_pending (Some x) = tt

  -- Two of them are alike, if their items are equal.
  pub once_steady : Steadiness (GivesOnce {A = A}) (λ x y. y.value ≡ x.value)
  once_steady x y e l m x' y' =
      gives_steady (once_left x.value) (once_left y.value) (rw e) l m (once_left x'.value) (once_left y'.value)

  pub once_calm : CalmLaws (GivesOnce {A = A}) (λ x. ⊤)
  once_calm = calm_both (λ x y l k h. (gives_calm.no_pending _ _ l (held_no_pending x.value) h, tt))
