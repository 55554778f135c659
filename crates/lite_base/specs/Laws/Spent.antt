-- Laws of a future that is held until its value.
use Rattle.std.specs.Prelude.{Result, Ok, Err, IfOk, List, ◌++◌, ◌≡◌, [], ◌∷◌, map, refl, IfSome, Option, Some, None}
use Rattle.lite_base.specs.Uses.{Poll, append_assoc, ap, map-append, Ready, Pending}
use Rattle.lite_base.specs.Answers.{Gives, Waiting, Answer, strip}
use Rattle.lite_base.specs.Spent.{Finishes, Spends, handed}
use Rattle.lite_base.specs.FutureLaws.{FutureRunLaws, WaitsOn}
use Rattle.lite_base.specs.Laws.Answers.{waiting_gives, waiting_waiting, waiting_strip}
use Rattle.lite_base.specs.Steady.{TakesNone}
use Rattle.lite_base.specs.Runs.{Runs}
use Rattle.lite_base.specs.Calm.{NoPending}

-- Laws of a future that was polled until its value.

-- `Pending`s may come before a finished run.
pub finishes_later : {F A : Type 0} {run : Runs (Poll A) F} → FutureRunLaws run
    → (f g : F) (l m : List (Poll A)) (v : A) → Waiting l → run f l g → Finishes run g m v → Finishes run f (l ++ m) v
finishes_later laws f g l m v w came h =
    record { gives = waiting_gives l m v w h.gives; last = h.last; came = laws.follows f g h.last l m w came h.came }

-- If no poll needs memory, a finished run is ample.
pub finishes_found : {F A : Type 0} {run ample : Runs (Poll A) F} → TakesNone run ample
    → (f : F) (l : List (Poll A)) (v : A) → Finishes run f l v → Finishes ample f l v
finishes_found takes f l v h = record { gives = h.gives; last = h.last; came = takes f h.last l h.came }

-- The future finishes if its value came after `Pending`s and no allocation failed in the wait.
pub gave_finishes : {F A E : Type 0} (run : Runs (Poll A) F) (f g : F) (r : Result A E)
    → IfOk r (λ v. (l : List (Poll A)) × Gives l v × run f l g) → IfOk r (λ v. (l : List (Poll A)) × Finishes run f l v)
gave_finishes run f g (Ok v) h = (h.0, record { gives = h.1; last = g; came = h.2 })
gave_finishes run f g (Err e) h = tt

module _ {A B : Type 0} (shown : Poll A → Poll B) where
  pub shown_none : (ins : List (Poll A)) → [] ≡ map shown ins → ins ≡ []
  shown_none [] e = refl
  shown_none (a ∷ ins) e = absurd (cc e)

  pub shown_gives : (ins : List (Poll A)) (after : List (Poll B)) (x : A) → [] ≡ map shown ins ++ after → Gives ins x
      → ⊥
  shown_gives [] after x e g = g
  shown_gives (a ∷ ins) after x e g = cc e

module _ {F A B : Type 0} {run : Runs (Poll A) F} (shown : Poll A → Poll B) (Later : List (Poll B) → Type 0)
    (laws : FutureRunLaws run) where
  pub spends_rest : Later [] → (x : Option F) → Spends run shown Later x [] x
  spends_rest none None = (none, refl)
  spends_rest none (Some f) = ([], tt, laws.rests f, refl)

  pub spends_stay : (x y : Option F) → Spends run shown Later x [] y → y ≡ x
  spends_stay None y h = h.1
  spends_stay (Some f) (Some g) h = ap Some (laws.stays f g (rw (shown_none shown h.0 h.3) at h.2))
  spends_stay (Some f) None h = absurd (shown_gives shown h.ins h.after h.value h.joined h.finishes.gives)

  -- Runs follow one another, whether the first has the value or not.
  pub spends_follow : ((l m : List (Poll B)) → Later l → Later m → Later (l ++ m))
      → (x y z : Option F) (l m : List (Poll B)) → Spends run shown Later x l y → Spends run shown Later y m z
      → Spends run shown Later x (l ++ m) z
  spends_follow more None None z l m h k = (more l m h.0 k.0, k.1)
  spends_follow more None (Some g) z l m h k = absurd (let e = h.1 in cc)
  spends_follow more (Some f) None None l m h k =
      record {
        ins = h.ins;
        value = h.value;
        finishes = h.finishes;
        after = h.after ++ m;
        later = more h.after m h.later k.0;
        joined = rw (h.joined, append_assoc);
      }
  spends_follow more (Some f) None (Some g) l m h k = absurd (let e = k.1 in cc)
  spends_follow more (Some f) (Some g) None l m h k =
      record {
        ins = h.0 ++ k.ins;
        value = k.value;
        finishes = finishes_later laws f g h.0 k.ins k.value h.1 h.2 k.finishes;
        after = k.after;
        later = k.later;
        joined = rw (h.3, k.joined, map-append, append_assoc);
      }
  spends_follow more (Some f) (Some g) (Some j) l m h k = (
    h.0 ++ k.0,
    waiting_waiting h.0 k.0 h.1 k.1,
    laws.follows f g j h.0 k.0 h.1 h.2 k.2,
    rw (h.3, k.3, map-append),
  )

module _ {F A B : Type 0} {run ample : Runs (Poll A) F} (shown : Poll A → Poll B) (Later : List (Poll B) → Type 0) where
  -- If no poll needs memory, every run is ample.
  pub spends_found : TakesNone run ample → (x y : Option F) (l : List (Poll B)) → Spends run shown Later x l y
      → Spends ample shown Later x l y
  spends_found takes None y l h = h
  spends_found takes (Some f) (Some g) l h = (h.0, h.1, takes f g h.0 h.2, h.3)
  spends_found takes (Some f) None l h =
      record {
        ins = h.ins;
        value = h.value;
        finishes = finishes_found takes f h.ins h.value h.finishes;
        after = h.after;
        later = h.later;
        joined = h.joined;
      }

module _ {F A B : Type 0} (run : Runs (Poll A) F) (can_poll : F → Type 0) (on : WaitsOn can_poll run)
    (shown : Poll A → Poll B) (Later : List (Poll B) → Type 0) where
  -- The future that is held may be polled after any run.
  pub spends_on : (x y : Option F) (l : List (Poll B)) → IfSome x can_poll → Spends run shown Later x l y
      → IfSome y can_poll
  spends_on None y l c h = rw h.1 tt
  spends_on (Some f) (Some g) l c h = on f g h.0 h.1 c h.2
  spends_on (Some f) None l c h = tt

-- Laws of what a stream yields that polls a future.

module _ {A B : Type 0} (shown : A → Option B) where
  -- While the future is pending, the stream is pending.
  pub handed_waiting : (l : List (Poll A)) → Waiting l → Waiting (map (handed shown) l)
  handed_waiting [] w = tt
  handed_waiting (Pending ∷ l) w = handed_waiting l w
  handed_waiting (Ready x ∷ l) w = absurd w

  pub handed_waits : (l : List (Poll A)) → Waiting l → strip (map (handed shown) l) ≡ []
  handed_waits l w = waiting_strip (map _ l) (handed_waiting l w)

  -- After that the stream yields what is shown of the value, before later results.
  pub handed_gives : (l : List (Poll A)) (later : List (Answer B)) (x : A) → Gives l x
      → strip (map (handed shown) l ++ later) ≡ shown x ∷ strip later
  handed_gives [] later x g = absurd g
  handed_gives (Pending ∷ l) later x g = handed_gives l later x g
  handed_gives (Ready y ∷ l) later x g = rw (g.0, g.1)

  pub handed_no_pending : (l : List (Poll A)) → NoPending l → NoPending (map (handed shown) l)
  handed_no_pending [] h = tt
  handed_no_pending (Pending ∷ l) h = absurd h
  handed_no_pending (Ready x ∷ l) h = handed_no_pending l h
