-- The item of `repeat`, if its clones equal it and are not refused.
use Rattle.std.specs.Prelude.{◌≡◌, List, [], ◌∷◌, Some, None, Result, Ok, Err, refl}
use Rattle.lite_views.specs.Uses.{ap, AllByRecursion, Ready, Pending, Answer, FoldsTo, item}
use Rattle.lite_source.specs.Repeat.{IsCloned, Repeats}
use Rattle.lite_source.specs.declared.repeat.Repeat.{Repeat}
use Rattle.lite_views.specs.Views.{EachIs, Seen, GoesOn}
use Rattle.lite_views.proofs.Views.{seen}

pub repeated_on : {A : Type 0} (E : Type 0) (is_clone : A → A → Type 0) (is_infallible : A → Type 0) (x : Repeat A)
    → is_infallible x.item → ((v : A) → is_clone x.item v → v ≡ x.item)
    → Seen {Y = Result A E} x (Ok x.item) × GoesOn (Repeats {E = E} is_clone is_infallible) x (Ok x.item)
unfolding GoesOn
repeated_on {A} E is_clone is_infallible x never equal = (seen x (Ok x.item), λ l y h. each l h.0)
  where
    each : (l : List (Answer (Result A E))) → AllByRecursion (IsCloned is_clone is_infallible x.item) l
        → EachIs (Ok x.item) l
    each [] a = tt
    each (Pending ∷ l) a = absurd a.0
    each (Ready None ∷ l) a = absurd a.0
    each (Ready (Some (Ok v)) ∷ l) a = (ap (λ z. Ok z) (equal v a.0), each l a.1)
    each (Ready (Some (Err e)) ∷ l) a = absurd (a.0 never)

-- A source whose every poll yields the same item: what `repeat_with` and `poll_fn` share.

-- a source each of whose steps yields y and leaves it as it was
module _ {F A : Type 0} (step : F → Answer A → F → Type 0) (f : F) (y : A)
    (acts : (a : Answer A) (q : F) → step f a q → (q ≡ f) × (a ≡ item y)) where
  pub stepped_on : (p q : F) (l : List (Answer A)) → p ≡ f → FoldsTo step p l q → EachIs y l
  stepped_on p q [] same h = tt
  stepped_on p q (a ∷ l) same h =
      let next = acts a h.0 (rw same at h.1) in rw next.1 (refl, stepped_on h.0 q l next.0 h.2)
