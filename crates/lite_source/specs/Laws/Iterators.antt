-- Laws about `iter` over iterators of which nothing is known but that they are deterministic. Iterators that agree make
-- streams that are alike.
use Rattle.std.specs.Prelude.{◌≡◌, List, ◌∷◌, Option, Some, None, length, MatchOption}
use Rattle.std.proofs.Common.{◌<◌}
use Rattle.lite_source.specs.Uses.{ℕ, ◌∙◌, refl, ap, sym, arith, Count, Alike}
use Rattle.std.specs.Array.Iter.{array_into_iter_items, array_steps}
use Rattle.std.specs.Iterator.Adapters.{copied_source, copied_steps}
use Rattle.std.specs.Option.{option_copied}
use Rattle.std.specs.Range.{range_steps}
use Rattle.std.specs.Slice.Iter.{iter_rest, iter_steps}
use Rattle.std.specs.Vec.Iter.{into_iter_items, into_iter_len, into_iter_steps}
use Rattle.std.specs.declared.iter.Copied.{Copied}
use Rattle.std.specs.declared.ops.Range.{Range}
use Rattle.std.specs.declared.vec.IntoIter.{IntoIter}
use Rattle.std.specs.declared.array.IntoIter.{IntoIter as ArrayIter}
use Rattle.std.specs.declared.slice.Iter.{Iter as SliceIter}
use Rattle.lite_source.specs.Iter.{Iterates}
use Rattle.lite_source.specs.Laws.Folds.{folds_alike}

pub iter_alike : {I A : Type 0} (can : I → Type 0) (gives : I → Option A → I → Type 0) (remaining : I → Count)
    (agree : I → I → Type 0)
    → ((i j p q : I) (r s : Option A) → agree i j → gives i r p → gives j s q → (r ≡ s) × agree p q) → (i j : I)
    → agree i j → Alike (Iterates can gives remaining) i j
iter_alike can gives remaining agree step =
    folds_alike _ agree (λ p q r b. absurd) (λ p q r b. absurd)
    (λ p q r s x y b h k. step p q r s x y b h.0 k.0)

-- The items come off the front of what is left, until nothing is.
module _ {I A : Type 0} (left : I → List A) where
  -- One item comes off the front of what is left. Or nothing is left, and nothing changes.
  abbrev FromFront : I → Option A → I → Type 0
  FromFront i r p = MatchOption r ((length (left i) ≡ 0) × (p ≡ i)) (λ x. left i ≡ x ∷ left p)

  nothing_comes : (i : I) (x : A) (l : List A) → length (left i) ≡ 0 → left i ≡ x ∷ l → ⊥
  nothing_comes i x l none e = omega (arith, rw e at none)

  module _ (i j p q : I) where
    front_step : (r s : Option A) → left i ≡ left j → FromFront i r p → FromFront j s q → (r ≡ s) × (left p ≡ left q)
    front_step None None e h k = (refl, rw (h.1, k.1) e)
    front_step None (Some y) e h k = absurd (nothing_comes i y (left q) h.0 (e ∙ k))
    front_step (Some x) None e h k = absurd (nothing_comes j x (left p) k.0 (sym e ∙ h))
    front_step (Some x) (Some y) e h k = (cc (h, e, k), cc (h, e, k))

module _ {A : Type 0} where
  pub array_alike : {n : ℕ} (can : ArrayIter A n → Type 0) (remaining : ArrayIter A n → Count) (i j : ArrayIter A n)
      → array_into_iter_items i ≡ array_into_iter_items j
      → Alike (Iterates can array_steps remaining) i j
  array_alike can remaining =
      iter_alike can array_steps remaining _
      (front_step array_into_iter_items)

  -- The items that the references of a slice refer to.
  abbrev pub slice_items : Copied (SliceIter A) → List A
  slice_items i = iter_rest (copied_source i)

  shown_step : (i j p q : Copied (SliceIter A)) (r s : Option A) → slice_items i ≡ slice_items j
      → copied_steps iter_steps i r p → copied_steps iter_steps j s q → (r ≡ s) × (slice_items p ≡ slice_items q)
  shown_step i j p q r s e h k = from_front h.0 k.0 h.1 k.1 h.2 k.2
    where
      from_front : (o u : Option _) → iter_steps (copied_source i) o (copied_source p)
          → iter_steps (copied_source j) u (copied_source q) → r ≡ option_copied o → s ≡ option_copied u
          → (r ≡ s) × (slice_items p ≡ slice_items q)
      from_front None None a b c d = (c ∙ sym d, ap iter_rest a.1 ∙ e ∙ sym (ap iter_rest b.1))
      from_front None (Some y) a b c d = absurd (nothing_comes slice_items i y.now (slice_items q) a.0 (e ∙ b))
      from_front (Some x) None a b c d = absurd (nothing_comes slice_items j x.now (slice_items p) b.0 (sym e ∙ a))
      from_front (Some x) (Some y) a b c d = (cc (a, b, c, d, e), cc (a, b, e))

  -- Two iterators over slices are compared by their items, because nothing says where a reference points.
  pub slice_alike : (can : Copied (SliceIter A) → Type 0) (remaining : Copied (SliceIter A) → Count)
      (i j : Copied (SliceIter A)) → slice_items i ≡ slice_items j
      → Alike (Iterates can (copied_steps iter_steps) remaining) i j
  slice_alike can remaining =
      iter_alike can (copied_steps iter_steps) remaining _ shown_step

-- A range has one value that follows each value.
module _ {A : Type 0} (gap : A → A → ℕ) (follows : A → A → Type 0)
    (one : (x y z : A) → follows x y → follows x z → y ≡ z) where
  -- Two ranges with the same start and the same end.
  abbrev SameEnds : Range A → Range A → Type 0
  SameEnds i j = (i.start ≡ j.start) × (i.end ≡ j.end)

  module _ (i j p q : Range A) where
    range_step : (r s : Option A) → SameEnds i j → range_steps gap follows i r p → range_steps gap follows j s q
        → (r ≡ s) × SameEnds p q
    range_step None None e h k = (refl, (h.1.1 ∙ e.0 ∙ sym k.1.1, h.0 ∙ e.1 ∙ sym k.0))
    range_step None (Some y) e h k = absurd (omega (arith, k.1.0, rw (e.0, e.1) at h.1.0))
    range_step (Some x) None e h k =
        absurd (let none : gap i.start i.end ≡ 0 = rw (e.0, e.1) k.1.0 in omega (arith, h.1.0, none))
    range_step (Some x) (Some y) e h k =
        (ap Some (h.1.1 ∙ e.0 ∙ sym k.1.1), (one j.start p.start q.start (rw e.0 at h.1.2) k.1.2, h.0 ∙ e.1 ∙ sym k.0))

  pub range_alike : (can : Range A → Type 0) (remaining : Range A → Count) (i j : Range A) → i.start ≡ j.start
      → i.end ≡ j.end → Alike (Iterates can (range_steps gap follows) remaining) i j
  range_alike can remaining i j e d = iter_alike can (range_steps gap follows) remaining SameEnds range_step i j (e, d)

module _ {A Z : Type 0} where
  -- Two `Vec` iterators with the same items left.
  abbrev pub SameLeft : IntoIter A Z → IntoIter A Z → Type 0
  SameLeft i j = (into_iter_len i ≡ into_iter_len j) × (0 < into_iter_len i → into_iter_items i ≡ into_iter_items j)

  module _ (i j p q : IntoIter A Z) where
    left_step : (r s : Option A) → SameLeft i j → into_iter_steps i r p → into_iter_steps j s q → (r ≡ s) × SameLeft p q
    left_step None None e h k = (refl, (h.1 ∙ sym k.1, λ more. absurd (omega (arith, more, h.1))))
    left_step None (Some y) e h k = absurd (omega (arith, e.0, h.0, k.1))
    left_step (Some x) None e h k = absurd (omega (arith, e.0, h.1, k.0))
    left_step (Some x) (Some y) e h k =
        let same : into_iter_items i ≡ into_iter_items j = e.1 (omega (arith, h.1)) in
        (cc (h.0, same, k.0), (omega (arith, e.0, h.1, k.1), λ more. cc (h.0, same, k.0)))

  pub vec_alike : (can : IntoIter A Z → Type 0) (remaining : IntoIter A Z → Count) (i j : IntoIter A Z)
      → into_iter_len i ≡ into_iter_len j → into_iter_items i ≡ into_iter_items j
      → Alike (Iterates can into_iter_steps remaining) i j
  vec_alike can remaining i j e d = iter_alike can into_iter_steps remaining SameLeft left_step i j (e, λ more. d)
