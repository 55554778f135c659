-- What streams and futures yield that are specified by a step.
use Rattle.std.specs.Prelude.{◌≡◌, List, [], ◌∷◌, Some, None, refl, Ok, Err}
use Rattle.lite_views.specs.Uses.{ap, subst, sym, FoldsTo, Poll, Ready, Pending, Answer, Gives, end, item, Runs, Hints, StreamLaws}
use Rattle.lite_base.specs.Answers.{UpToValue}
use Rattle.lite_views.specs.Views.{Fits, ItemsAfter, Lists, ListsAs, Seen, ValueHolds, Waited}

-- A future: `P` of the future and its value holds at the result with the value, and before each `Pending`.
module _ {F A : Type 0} (step : F → Poll A → F → Type 0) (P : F → A → Type 0)
    (waits : (x y : F) (v : A) → step x Pending y → P y v → P x v)
    (gives : (x y : F) (v : A) → step x (Ready v) y → P x v) where
  value_from : (x y : F) (l : List (Poll A)) (v : A) → Gives l v → FoldsTo step x l y → P x v
  value_from x y [] v g h = absurd g
  value_from x y (Pending ∷ l) v g h = waits x h.0 v h.1 (value_from h.0 y l v g h.2)
  value_from x y (Ready w ∷ l) v g h = subst (P x) g.0 (gives x h.0 w h.1)

  pub value_by_steps : {E : Type 0} (x : F) → ValueHolds E (λ y l z. UpToValue l × FoldsTo step y l z) x (P x)
  unfolding Seen Waited
  value_by_steps x (Ok v) w = (tt, value_from x w.1.last w.0 v w.1.gives w.1.came.1)
  value_by_steps x (Err e) w = (tt, tt)

-- A stream: `left` is the items that are to come. A step yields the first of them, or ends the stream if there is none.
module _ {S A : Type 0} (step : S → Answer A → S → Type 0) (left : S → List A)
    (waits : (x y : S) → step x Pending y → left y ≡ left x)
    (gives : (x y : S) (a : A) → step x (item a) y → left x ≡ a ∷ left y)
    (ends : (x y : S) → step x end y → left x ≡ []) where
  fits_from : (x y : S) (l : List (Answer A)) → FoldsTo step x l y → Fits l (left x)
  fits_from x y [] h = tt
  fits_from x y (Pending ∷ l) h = subst (Fits l) (waits x h.0 h.1) (fits_from h.0 y l h.2)
  fits_from x y (Ready None ∷ l) h = ends x h.0 h.1
  fits_from x y (Ready (Some a) ∷ l) h =
      subst (Fits (item a ∷ l)) (sym (gives x h.0 a h.1)) (refl, fits_from h.0 y l h.2)

  pub lists_by_steps : (x : S) → Lists (FoldsTo step) x (left x)
  unfolding Lists
  lists_by_steps x l y = fits_from x y l

-- A stream whose items are no function of its value: `Left x xs` says that `xs` are to come.
module _ {S A : Type 0} (step : S → Answer A → S → Type 0) (Left : S → List A → Type 0)
    (moves : (x y : S) (a : Answer A) (xs : List A) → Left x xs → step x a y → ItemsAfter Left a y xs) where
  related_from : (x y : S) (l : List (Answer A)) (xs : List A) → Left x xs → FoldsTo step x l y → Fits l xs
  related_from x y [] xs left h = tt
  related_from x y (Pending ∷ l) xs left h = related_from h.0 y l xs (moves x h.0 Pending xs left h.1) h.2
  related_from x y (Ready None ∷ l) xs left h = moves x h.0 end xs left h.1
  related_from x y (Ready (Some a) ∷ l) xs left h =
      let moved = moves x h.0 (item a) xs left h.1 in
      subst (Fits (item a ∷ l)) (sym moved.1) (refl, related_from h.0 y l moved.0 moved.2 h.2)

  pub lists_by_relation : (x : S) (xs : List A) → Left x xs → Lists (FoldsTo step) x xs
  unfolding Lists
  lists_by_relation x xs left l y = related_from x y l xs left

-- What one poll of any stream leaves of its items.
module _ {S A : Type 0} {run : Runs (Answer A) S} {can_poll : S → Type 0} {hints : Hints S} (laws : StreamLaws can_poll run hints) (x y : S) where
  after_front : (a : Answer A) (xs : List A) → ((l : List (Answer A)) (t : S) → run y l t → Fits (a ∷ l) xs)
      → ItemsAfter (Lists run) a y xs
  unfolding Lists
  after_front Pending xs fits = fits
  after_front (Ready None) xs fits = fits [] y (laws.rests y)
  after_front (Ready (Some a)) [] fits = absurd (fits [] y (laws.rests y))
  after_front (Ready (Some a)) (b ∷ xs) fits =
      (xs, ap (λ c. c ∷ xs) (sym (fits [] y (laws.rests y)).0), λ l t ran. (fits l t ran).1)

  pub lists_after : (a : Answer A) (xs : List A) → Lists run x xs → run x (a ∷ []) y → ItemsAfter (Lists run) a y xs
  unfolding Lists
  lists_after a xs known ran =
      after_front a xs (λ l t h. known (a ∷ l) t (laws.follows x y t (a ∷ []) l ran h))

-- In the form that contracts of nests have.
pub lists_as : {S A : Type 0} (run : Runs (Answer A) S) (s : S) (xs : List A) → Lists run s xs → ListsAs run s xs
unfolding Seen
lists_as run s xs known = (refl, tt, known)
