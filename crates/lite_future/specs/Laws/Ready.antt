-- Laws of `ready`.
use Rattle.std.specs.Prelude.{⊤, ◌≡◌, ◌≤◌, List, [], ◌∷◌, ◌++◌, length, Option, Some, None, IsSome, refl}
use Rattle.lite_future.specs.Uses.{ap, subst, arith, Poll, Ready, Pending, Waiting, strip, CalmLaws, NoPending, calm_both, FutureLaws, by_value}
use Rattle.lite_future.specs.Uses.{FutureSteadyLaws, future_steady_always, Runs}
use Rattle.lite_future.specs.Ready.{GivesHeld}
use Rattle.lite_future.specs.declared.ready.Ready.{Ready as ReadyFuture}

module _ {A : Type 0} where
  held_follows : (x y z : Option A) (l m : List (Poll A)) → Waiting l → GivesHeld x l y → GivesHeld y m z
      → GivesHeld x (l ++ m) z
  held_follows x y z [] m w h k = subst (λ t. GivesHeld t m z) h k
  held_follows None y z (a ∷ l) m w h k = absurd h
  held_follows (Some x) y z (Pending ∷ l) m w h k = absurd (let e = h.0 in cc)
  held_follows (Some x) y z (Ready b ∷ l) m w h k = absurd w

  held_once : (x y : Option A) (l : List (Poll A)) → GivesHeld x l y → length (strip l) ≤ 1
  held_once x y [] h = omega arith
  held_once None y (a ∷ l) h = absurd h
  held_once (Some x) y (Pending ∷ l) h = absurd (let e = h.0 in cc)
  held_once (Some x) y (Ready b ∷ l) h = rw h.1 (omega arith)

  held_value : (x y : Option A) (l : List (Poll A)) (v : A) → GivesHeld x l y → strip l ≡ v ∷ [] → x ≡ Some v
  held_value x y [] v h e = absurd (cc e)
  held_value None y (a ∷ l) v h e = absurd h
  held_value (Some u) y (Pending ∷ l) v h e = absurd (let d = h.0 in cc)
  held_value (Some u) y (Ready w ∷ l) v h e = let d = h.0 in cc

  held_on : (x y : Option A) (l : List (Poll A)) → Waiting l → IsSome x → GivesHeld x l y → IsSome y
  held_on x y [] w c h = rw h c
  held_on None y (a ∷ l) w c h = absurd h
  held_on (Some x) y (Pending ∷ l) w c h = absurd (let e = h.0 in cc)
  held_on (Some x) y (Ready b ∷ l) w c h = absurd w

  held_no_pending : (x y : Option A) (l : List (Poll A)) → GivesHeld x l y → NoPending l
  held_no_pending x y [] h = tt
  held_no_pending None y (a ∷ l) h = absurd h
  held_no_pending (Some v) y (a ∷ l) h = rw (h.0, h.1) tt

  -- The runs of `ready`, by the value that it holds.
  abbrev ReadyHolds : Runs (Poll A) (ReadyFuture A)
  ReadyHolds x l y = GivesHeld x.value l y.value

  pub held_laws : FutureLaws (λ x. IsSome x.value) ReadyHolds
  held_laws =
      record {
        rests = λ x. refl;
        stays = λ x y h. ap (λ v. record x { value = v }) h;
        follows = λ x y z. held_follows x.value y.value z.value;
        once = λ x y. held_once x.value y.value;
        waits_on = λ x y l. held_on x.value y.value l;
      }

  -- Two of them are alike if their values are equal.
  pub held_steady : FutureSteadyLaws ReadyHolds ReadyHolds ⊤ (λ x y. y.value ≡ x.value)
  held_steady =
      future_steady_always held_laws (λ x y e l m x' y' h k.
      by_value _ _ (held_once x.value x'.value l h) (held_once y.value y'.value m k)
      (λ v w f g. let one = held_value x.value x'.value l v h f in let two = held_value y.value y'.value m w k g in cc))

  pub held_calm : CalmLaws ReadyHolds (λ x. ⊤)
  held_calm = calm_both (λ x y l k h. (held_no_pending x.value y.value l h, tt))
