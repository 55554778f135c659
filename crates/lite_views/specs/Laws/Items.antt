-- Which items adapters yield, as plain functions of the source's items.
use Rattle.std.specs.Prelude.{◌≡◌, ℕ, List, [], ◌∷◌, map, refl, Bool, true, false, Option, Some, None, Result, Ok, Err, IfOk}
use Rattle.std.proofs.Common.{◌≤◌, ◌-◌}
use Rattle.lite_views.specs.Uses.{suc, length, take, ap, inl, inr, arith, filter, Ready, Pending, Answer, end, item}
use Rattle.lite_views.specs.Uses.{items, Always, Question, Cuts, items_in, Replaces, is_none_left, left_after}
use Rattle.lite_views.specs.Uses.{leaves_steps, LeavesOut}
use Rattle.lite_stream.specs.Laws.Pointwise.{exchanges_steps}
use Rattle.lite_views.specs.Lists.{Front}
use Rattle.lite_views.specs.Laws.Fronts.{front_filter, front_map, front_take}

-- `map`: as many results, with the function applied to the items.
module _ {F A B : Type 0} (call : Question F A B) where
  pub replaced_length : (p q : F) (i : List (Answer A)) (o : List (Answer B)) → Replaces call p i o q
      → length i ≡ length o
  replaced_length p q =
      exchanges_steps (Always call) q (λ p i o. length i ≡ length o) refl (λ p i o. ap suc) (λ p i o. ap suc)
      (λ p m x y i o c. ap suc) p

  module _ (f : A → B) (answers : (p q : F) (x : A) (y : B) → call p x y q → y ≡ f x) where
    pub replaced_in : (p q : F) (i : List (Answer A)) (o : List (Answer B)) → Replaces call p i o q
        → items_in o ≡ map f (items_in i)
    replaced_in p q [] [] h = refl
    replaced_in p q (Ready (Some x) ∷ i) (b ∷ o) (None, r, same, called, more) = absurd called
    replaced_in p q (Ready (Some x) ∷ i) (b ∷ o) (Some y, r, same, called, more) =
        rw (same, answers p r x y called) (rw (replaced_in r q i o more))
    replaced_in p q (_ ∷ i) (b ∷ o) h = rw h.0 (replaced_in p q i o h.1)
    replaced_in p q _ _ h = absurd h

    pub replaced_front : (p q : F) (xs : List A) (i : List (Answer A)) (o : List (Answer B))
        → Front (items_in i) xs → Replaces call p i o q → Front (items_in o) (map f xs)
    replaced_front p q xs i o came h =
        rw (replaced_in p q i o h) (front_map f (items_in i) xs came)

    -- If all results were items.
    pub replaced_items : (p q : F) (xs : List A) (o : List (Answer B)) → Replaces call p (items xs) o q
        → o ≡ items (map f xs)
    replaced_items p q [] [] h = refl
    replaced_items p q (x ∷ xs) (b ∷ o) (None, r, same, called, more) = absurd called
    replaced_items p q (x ∷ xs) (b ∷ o) (Some y, r, same, called, more) =
        rw (same, answers p r x y called) (rw (replaced_items r q xs o more))
    replaced_items p q _ _ h = absurd h

-- `filter`: the items that the test accepts.
module _ {F A : Type 0} (call : Question F A (Option A)) (test : A → Bool)
    (keeps : (p q : F) (x y : A) → call p x (Some y) q → (y ≡ x) × (test x ≡ true))
    (rejects : (p q : F) (x : A) → call p x None q → test x ≡ false) where
  one_kept : (p m : F) (x : A) (i : List (Answer A)) (y : A) (o : List (Answer A)) → call p x (Some y) m
      → items_in o ≡ filter test (items_in i) → y ∷ items_in o ≡ filter test (x ∷ items_in i)
  one_kept p m x i y o t k = let passed = keeps p m x y t in rw (passed.1, passed.0) (rw k)

  module _ (p q : F) where
    pub left_in : (i o : List (Answer A)) → LeavesOut call p i o q → items_in o ≡ filter test (items_in i)
    left_in i o =
        leaves_steps call (λ p i o. items_in o ≡ filter test (items_in i))
        (λ p m x i b o t k. rw (rejects p m x t) k) (λ p i o k. k) (λ p i o k. k) one_kept p q i o refl

    pub left_front : (xs : List A) (i o : List (Answer A)) → Front (items_in i) xs → LeavesOut call p i o q
        → Front (items_in o) (filter test xs)
    left_front xs i o came h = rw (left_in i o h) (front_filter test (items_in i) xs came)

-- `take`: the items of the source, as many as were left to be taken at most.
module _ {F A : Type 0} (is_over : F → Type 0) (after : Answer A → F → F) where
  pub cut_in : (f g : F) (i o : List (Answer A)) → Cuts is_over after f i o g → items_in o ≡ items_in i
  cut_in f g i [] h = cc
  cut_in f g i (b ∷ o) (inl h) = rw h.1 (cut_in f g i o h.2)
  cut_in f g i (Pending ∷ o) (inr h) = rw h.2 (cut_in (after Pending f) g h.1 o h.3)
  cut_in f g i (Ready None ∷ o) (inr h) = rw h.2 (cut_in (after end f) g h.1 o h.3)
  cut_in f g i (Ready (Some x) ∷ o) (inr h) =
      rw h.2 (rw (cut_in (after (item x) f) g h.1 o h.3))

pub taken_length : {A : Type 0} (n m : ℕ) (i o : List (Answer A)) → Cuts is_none_left left_after n i o m
    → length (items_in o) ≤ n
taken_length n m i [] h = omega arith
taken_length n m i (b ∷ o) (inl h) = rw h.1 (taken_length n m i o h.2)
taken_length n m i (Pending ∷ o) (inr h) = taken_length n m h.1 o h.3
taken_length n m i (Ready None ∷ o) (inr h) = omega (arith, taken_length 0 m h.1 o h.3)
taken_length n m i (Ready (Some x) ∷ o) (inr h) =
    let some : ¬ (n ≡ 0) = h.0 in omega (arith, taken_length (n - 1) m h.1 o h.3)

pub cut_front : {A : Type 0} (n m : ℕ) (xs : List A) (i o : List (Answer A))
    → Front (items_in i) xs → Cuts is_none_left left_after n i o m → Front (items_in o) (take n xs)
cut_front n m xs i o came h =
    front_take n (items_in o) xs (taken_length n m i o h) (rw (cut_in is_none_left left_after n m i o h) came)

-- What a successful call says, in other words.
pub on_ok : {A E P Q : Type 0} (r : Result A E) → (P → Q) → IfOk r (λ _. P) → IfOk r (λ _. Q)
on_ok (Ok x) to h = to h
on_ok (Err e) to h = tt
