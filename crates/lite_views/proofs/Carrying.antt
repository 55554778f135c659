-- What an adapter makes of items, for the relations that exchange items or leave some out.
use Rattle.std.specs.Prelude.{◌≡◌, List, [], ◌∷◌, refl, ⊤, Bool, true, false, cond, Option, Some, None, ℕ}
use Rattle.lite_views.specs.Uses.{Ready, Pending, Answer, item, Question, Exchanges, leaves_steps, LeavesOut, suc, length, arith, cons_option}
use Rattle.lite_reshape.specs.Leaving.{Selects}
use Rattle.lite_views.proofs.Views.{Carries}
use Rattle.lite_views.specs.Views.{Fits}
use Rattle.std.proofs.Common.{◌≤◌}
use Rattle.lite_views.specs.Lists.{cons_while}

-- `made p xs` are the items that come out of xs from the state p on
module _ {F A B : Type 0} (call : Question F A (Option B)) (Good : F → Type 0) (made : F → List A → List B)
    (nothing : (p : F) → Good p → made p [] ≡ [])
    (gives : (p q : F) (x : A) (y : B) (xs : List A) → Good p → call p x (Some y) q → (made p (x ∷ xs) ≡ y ∷ made q xs)
    × Good q) where
  -- where one answer comes out for each that came in
  module _ (stops : (p q : F) (x : A) (xs : List A) → Good p → call p x None q → made p (x ∷ xs) ≡ []) where
    pub exchanged_fits : (p : F) (xs : List A) → Good p → Carries (Exchanges call) p xs (made p xs)
    exchanged_fits p xs g [] (b ∷ o) q e h = absurd h
    exchanged_fits p xs g (Pending ∷ i) (b ∷ o) q e h = rw h.0 (exchanged_fits p xs g i o q e h.1)
    exchanged_fits p xs g (Ready None ∷ i) (b ∷ o) q e h = rw (h.0, e) (nothing p g)
    exchanged_fits p [] g (Ready (Some x) ∷ i) (b ∷ o) q e h = absurd e
    exchanged_fits p (y ∷ xs) g (Ready (Some x) ∷ i) (b ∷ o) q e (None, r, same, called, more) =
        rw (same, ← e.0) (stops p r x xs g called)
    exchanged_fits p (y ∷ xs) g (Ready (Some x) ∷ i) (b ∷ o) q e (Some z, r, same, called, more) =
        let step = gives p r x z xs g called in
        rw (same, ← e.0, step.0) (refl, exchanged_fits r xs step.1 i o q e.1 more)
    exchanged_fits p xs g _ [] q e h = tt

  -- where some items are left out
  module _ (drops : (p q : F) (x : A) (xs : List A) → Good p → call p x None q → (made p (x ∷ xs) ≡ made q xs) × Good q)
    where
      -- the answers o come of the answers i
      abbrev Left : F → List (Answer A) → List (Answer B) → Type 0
      Left p i o = (xs : List A) → Good p → Fits i xs → Fits o (made p xs)

      module _ (p m : F) (x : A) (i : List (Answer A)) where
        one_rejected : (b : Answer B) (o : List (Answer B)) → call p x None m → Left m i (b ∷ o)
            → Left p (item x ∷ i) (b ∷ o)
        one_rejected b o t k [] g e = absurd e
        one_rejected b o t k (z ∷ xs) g e = let step = drops p m x xs g t in rw (← e.0, step.0) (k xs step.1 e.1)

        one_kept : (y : B) (o : List (Answer B)) → call p x (Some y) m → Left m i o → Left p (item x ∷ i) (item y ∷ o)
        one_kept y o t k [] g e = absurd e
        one_kept y o t k (z ∷ xs) g e =
            let step = gives p m x y xs g t in rw (← e.0, step.0) (refl, k xs step.1 e.1)

      pub left_fits : (p : F) (xs : List A) → Good p → Carries (LeavesOut call) p xs (made p xs)
      left_fits p xs g i o q e h =
          leaves_steps call Left one_rejected (λ p i o k. k) (λ p i o k xs g e. rw e (nothing p g)) one_kept p q i o
          (λ xs g e. tt) h xs g e

-- where the adapter's own state decides
module _ {F A : Type 0} (keeps : F → A → Bool) (next : F → A → F) where
  -- the items that are kept
  abbrev pub selected : F → List A → List A
  selected p [] = []
  selected p (x ∷ xs) = cond (keeps p x) (x ∷ selected (next p x) xs) (selected (next p x) xs)

  pub selected_fits : (p : F) (xs : List A) → Carries (LeavesOut (Selects keeps next)) p xs (selected p xs)
  selected_fits p xs =
      left_fits (Selects keeps next) (λ p. ⊤) selected (λ p g. refl) (λ p q x y l g c. rw (c.0, c.1.0, c.1.1) (refl, tt))
      (λ p q x l g c. rw (c.0, c.1) (refl, tt)) p xs tt

  -- no more items come out than go in
  pub selected_fewer : (p : F) (xs : List A) → length (selected p xs) ≤ length xs
  selected_fewer p [] = omega arith
  selected_fewer p (x ∷ xs) = by (keeps p x) (selected (next p x) xs) (selected_fewer (next p x) xs)
    where
      by : (b : Bool) (l : List A) → length l ≤ length xs → length (cond b (x ∷ l) l) ≤ suc (length xs)
      by true l h = omega arith
      by false l h = omega arith

-- No more items come out of an adapter than go in: what `map_while`, `scan` and `filter_map` share.

pub while_fewer : {A : Type 0} (o : Option A) (xs : List A) (n : ℕ) → length xs ≤ n → length (cons_while o xs) ≤ suc n
while_fewer None xs n h = omega arith
while_fewer (Some x) xs n h = omega arith

pub option_fewer : {A : Type 0} (o : Option A) (xs : List A) (n : ℕ) → length xs ≤ n → length (cons_option o xs) ≤ suc n
option_fewer None xs n h = omega arith
option_fewer (Some x) xs n h = omega arith
