-- A merge has the items of both lists, and is in order if both are.
use Rattle.std.specs.Prelude.{◌≡◌, ◌<◌, ◌≤◌, ℕ, zero, suc, List, [], ◌∷◌, ◌++◌, Bool, true, false, refl}
use Rattle.std.specs.Prelude.{if◌then◌else◌, nat_le}
use Rattle.std.specs.List.{All}
use Rattle.std.specs.List.Sorted.{IsNonDecreasing, IsPermutation}
use Rattle.std.proofs.Common.{append-nil, arith}
use Rattle.std.proofs.lemmas.Bool.{leb-false, leb-true}
use Rattle.std.proofs.lemmas.List.Elements.{All-append, All-cons, All-weaker}
use Rattle.std.proofs.lemmas.List.Sorted.{All-permutation, IsPermutation-cons, IsPermutation-middle, IsPermutation-refl, IsPermutation-trans}
use Rattle.example_own.specs.MergeSorted.{merge_sorted}

pub merge_permutes : (xs ys : List ℕ) → IsPermutation (xs ++ ys) (merge_sorted xs ys)
merge_permutes [] ys = IsPermutation-refl ys
merge_permutes (x ∷ xs) [] = rw append-nil (IsPermutation-refl (x ∷ xs))
merge_permutes (x ∷ xs) (y ∷ ys) = by (nat_le x y) (merge_permutes xs (y ∷ ys)) (merge_permutes (x ∷ xs) ys)
  where
    by : (b : Bool) → IsPermutation (xs ++ y ∷ ys) (merge_sorted xs (y ∷ ys))
        → IsPermutation (x ∷ xs ++ ys) (merge_sorted (x ∷ xs) ys)
        → IsPermutation (x ∷ xs ++ y ∷ ys)
        (if b then x ∷ merge_sorted xs (y ∷ ys) else y ∷ merge_sorted (x ∷ xs) ys)
    by true left right = IsPermutation-cons x _ _ left
    by false left right =
        IsPermutation-trans _ _ _ (IsPermutation-middle (x ∷ xs) y ys) (IsPermutation-cons y _ _ right)

-- The first item of a list in order is at most each other, and the rest is in order.
module _ (x : ℕ) (xs : List ℕ) where
  in_order_from : All (λ y. x ≤ y) xs → IsNonDecreasing xs → IsNonDecreasing (x ∷ xs)
  in_order_from least rest zero zero d h below = omega arith
  in_order_from least rest zero (suc j) d h below = least j d (omega (arith, below))
  in_order_from least rest (suc i) zero d h below = absurd (omega (arith, h))
  in_order_from least rest (suc i) (suc j) d h below = rest i j d (omega (arith, h)) (omega (arith, below))

  in_order_first : IsNonDecreasing (x ∷ xs) → All (λ y. x ≤ y) xs
  in_order_first order k d below = order zero (suc k) d (omega arith) (omega (arith, below))

  in_order_rest : IsNonDecreasing (x ∷ xs) → IsNonDecreasing xs
  in_order_rest order i j d h below = order (suc i) (suc j) d (omega (arith, h)) (omega (arith, below))

-- What is at most each item of two lists is at most each of their merge.
at_most_each : (x : ℕ) (xs ys : List ℕ) → All (λ z. x ≤ z) xs → All (λ z. x ≤ z) ys → All (λ z. x ≤ z) (merge_sorted xs ys)
at_most_each x xs ys h k =
    All-permutation (λ z. x ≤ z) _ _ (merge_permutes xs ys) (All-append (λ z. x ≤ z) xs ys h k)

pub merge_in_order : (xs ys : List ℕ) → IsNonDecreasing xs → IsNonDecreasing ys → IsNonDecreasing (merge_sorted xs ys)
merge_in_order [] ys h k = k
merge_in_order (x ∷ xs) [] h k = h
merge_in_order (x ∷ xs) (y ∷ ys) h k =
    by (nat_le x y) refl (merge_in_order xs (y ∷ ys) (in_order_rest x xs h) k)
    (merge_in_order (x ∷ xs) ys h (in_order_rest y ys k))
  where
    others : (z w : ℕ) (l : List ℕ) → z ≤ w → All (λ v. w ≤ v) l → All (λ v. z ≤ v) (w ∷ l)
    others z w l low all =
        All-cons (λ v. z ≤ v) w l low (All-weaker (λ v. w ≤ v) (λ v. z ≤ v) (λ v more. omega (arith, low, more)) l all)

    by : (b : Bool) → nat_le x y ≡ b → IsNonDecreasing (merge_sorted xs (y ∷ ys))
        → IsNonDecreasing (merge_sorted (x ∷ xs) ys)
        → IsNonDecreasing (if b then x ∷ merge_sorted xs (y ∷ ys) else y ∷ merge_sorted (x ∷ xs) ys)
    by true e left right =
        in_order_from x _
        (at_most_each x xs (y ∷ ys) (in_order_first x xs h) (others x y ys (leb-true x y e) (in_order_first y ys k))) left
    by false e left right =
        let less : y < x = leb-false x y e in
        in_order_from y _
        (at_most_each y (x ∷ xs) ys (others y x xs (omega (arith, less)) (in_order_first x xs h)) (in_order_first y ys k)) right
