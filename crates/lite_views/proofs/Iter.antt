-- The items of `iter`.
use Rattle.std.specs.Prelude.{◌≡◌, ℕ, List, [], ◌∷◌, refl, Option, Some, None, ⊤}
use Rattle.std.proofs.Common.{◌+◌, ◌-◌}
use Rattle.lite_views.specs.Uses.{◌∙◌, suc, length, ap, sym, arith, Count, into_iter_items, into_iter_len, into_iter_steps, IntoIter, Ready, Pending}
use Rattle.lite_views.specs.Uses.{Answer, Iterates, Iter}
use Rattle.lite_source.specs.Laws.Iterators.{slice_items}
use Rattle.std.proofs.lemmas.List.FromFn.{length-range_with_len}
use Rattle.std.specs.Array.Iter.{array_into_iter_items, array_steps}
use Rattle.std.specs.Iterator.{at_most}
use Rattle.std.specs.Iterator.Adapters.{copied_steps}
use Rattle.std.specs.List.{range_with_len}
use Rattle.std.specs.Range.{range_steps}
use Rattle.std.specs.Slice.Iter.{iter_steps}
use Rattle.std.specs.declared.alloc.Global.{Global}
use Rattle.std.specs.declared.ops.Range.{Range}
use Rattle.std.specs.declared.array.IntoIter.{IntoIter as ArrayIter}
use Rattle.std.specs.declared.iter.Copied.{Copied}
use Rattle.std.specs.declared.slice.Iter.{Iter as SliceIter}
use Rattle.lite_views.specs.Laws.Sources.{iterated_front}
use Rattle.lite_views.specs.Iterators.{GivesAll, IterRuns}
use Rattle.lite_views.specs.Views.{Fits, Fronts}
use Rattle.lite_views.proofs.Views.{listed}

-- an iterator that shows what is left, and how many
module _ {I A : Type 0} (steps : I → Option A → I → Type 0) (remaining : I → Count) (left : I → List A) (len : I → ℕ)
    (some : (i j : I) (x : A) → steps i (Some x) j → (left i ≡ x ∷ left j) × (len j + 1 ≡ len i))
    (none : (i j : I) → steps i None j → (len i ≡ 0) × (len j ≡ 0)) where
  left_next : (i j : I) (l : List (Answer A)) (xs : List A) → left i ≡ xs → len i ≡ length xs
      → Iterates (λ _. ⊤) steps remaining i l j → Fits l xs
  left_next i j [] xs e n h = tt
  left_next i j (Pending ∷ l) xs e n h = absurd h.1
  left_next i j (Ready None ∷ l) [] e n h = refl
  left_next i j (Ready None ∷ l) (x ∷ xs) e n h = absurd (omega (arith, (none i h.0 h.1.0).0))
  left_next i j (Ready (Some y) ∷ l) [] e n h = absurd (omega (arith, (some i h.0 y h.1.0).1))
  left_next i j (Ready (Some y) ∷ l) (x ∷ xs) e n h =
      let step = some i h.0 y h.1.0 in
      (cc (step.0, e), left_next h.0 j l xs (cc (step.0, e)) (omega (arith, step.1)) h.2)

  pub left_gives : (x : Iter I) → len x.iter ≡ length (left x.iter) → GivesAll steps remaining x (left x.iter)
  unfolding Fronts
  left_gives x n = (
    listed (IterRuns steps remaining) x (left x.iter) (λ l t h. left_next x.iter t.iter l (left x.iter) refl n h),
    λ l t h. iterated_front (λ _. ⊤) steps remaining left len some none x.iter t.iter l h,
  )

-- `iter` over a range of unsigned numbers
pub range_gives : (x : Iter (Range ℕ)) (n : ℕ) → x.iter.end - x.iter.start ≡ n
    → GivesAll (range_steps (λ a b. b - a) (λ a b. b ≡ a + 1)) (λ r. at_most (r.end - r.start)) x
    (range_with_len x.iter.start n)
range_gives x n e =
    rw (← e)
    (left_gives (range_steps (λ a b. b - a) (λ a b. b ≡ a + 1)) (λ r. at_most (r.end - r.start)) left
    (λ r. r.end - r.start) some (λ i j g. (g.1.0, let a = g.0 in let b = g.1.0 in let c = g.1.1 in omega arith)) x
    (sym (length-range_with_len x.iter.start (x.iter.end - x.iter.start))))
  where
    left : Range ℕ → List ℕ
    left r = range_with_len r.start (r.end - r.start)

    some : (i j : Range ℕ) (y : ℕ) → range_steps (λ a b. b - a) (λ a b. b ≡ a + 1) i (Some y) j
        → (left i ≡ y ∷ left j) × (j.end - j.start + 1 ≡ i.end - i.start)
    some i j y g =
        let a = g.0 in let b = g.1.0 in let c = g.1.2 in
        let size : i.end - i.start ≡ suc (j.end - j.start) = omega arith in
        (rw (size, g.1.1, c), omega arith)

module _ (A : Type 0) where
  pub vec_gives : (x : Iter (IntoIter A Global)) → into_iter_len x.iter ≡ length (into_iter_items x.iter)
      → GivesAll into_iter_steps (λ i. at_most (into_iter_len i)) x (into_iter_items x.iter)
  vec_gives =
      left_gives into_iter_steps (λ i. at_most (into_iter_len i)) into_iter_items into_iter_len (λ i j y g. g)
      (λ i j g. g)

  one_less : (x : A) (l m : List A) → l ≡ x ∷ m → (l ≡ x ∷ m) × (length m + 1 ≡ length l)
  one_less x l m e = (e, omega (arith, ap length e))

  abbrev array_left : {n : ℕ} → ArrayIter A n → ℕ
  array_left i = length (array_into_iter_items i)

  pub array_gives : {n : ℕ} (x : Iter (ArrayIter A n))
      → GivesAll array_steps (λ i. at_most (array_left i)) x (array_into_iter_items x.iter)
  array_gives x =
      left_gives array_steps (λ i. at_most (array_left i)) array_into_iter_items array_left (λ i j y. one_less y _ _)
      (λ i j g. (g.0, rw g.1 g.0)) x refl

  module _ (i j : Copied (SliceIter A)) where
    slice_some : (x : A) → copied_steps iter_steps i (Some x) j → (slice_items i ≡ x ∷ slice_items j)
        × (length (slice_items j) + 1 ≡ length (slice_items i))
    slice_some x (None, h, e) = cc
    slice_some x (Some y, h, e) = one_less x (slice_items i) (slice_items j) (h ∙ ap (λ z. z ∷ slice_items j) (cc e))

    slice_none : copied_steps iter_steps i None j → (length (slice_items i) ≡ 0) × (length (slice_items j) ≡ 0)
    slice_none (None, h, e) = (h.0, rw h.1 h.0)
    slice_none (Some y, h, e) = cc

  pub slice_gives : (x : Iter (Copied (SliceIter A)))
      → GivesAll (copied_steps iter_steps) (λ i. at_most (length (slice_items i))) x (slice_items x.iter)
  slice_gives x =
      left_gives (copied_steps iter_steps) (λ i. at_most (length (slice_items i))) slice_items
      (λ i. length (slice_items i)) slice_some slice_none x refl
