-- Laws of the future `pending`.
use Rattle.std.specs.Prelude.{⊤, ◌≡◌, List, refl}
use Rattle.lite_future.specs.Uses.{◌∙◌, Poll, Waiting, FutureLaws, waiting_once, waiting_strip, waiting_waiting, FutureSteadyLaws}
use Rattle.lite_future.specs.Uses.{future_steady_always}

pub waits_laws : {F A : Type 0} → FutureLaws (λ _. ⊤) (λ (x : F) (l : List (Poll A)) (y : F). Waiting l × (y ≡ x))
waits_laws =
    record {
      rests = λ x. (tt, refl);
      stays = λ x y h. h.1;
      follows = λ x y z l m w h k. (waiting_waiting l m w k.0, k.1 ∙ h.1);
      once = λ x y l h. waiting_once l h.0;
      waits_on = λ x y l w c h. tt;
    }

pub waits_steady : {F A : Type 0}
    → FutureSteadyLaws (λ (x : F) (l : List (Poll A)) (y : F). Waiting l × (y ≡ x)) (λ x l y. Waiting l × (y ≡ x)) ⊤
    (λ x y. ⊤)
waits_steady = future_steady_always waits_laws (λ x y e l m x' y' h k. rw (waiting_strip l h.0) tt)
