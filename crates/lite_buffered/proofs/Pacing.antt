-- Reads within a budget.
use Rattle.std.specs.Prelude.{◌≡◌, ◌≤◌, ◌<◌, ◌+◌, ◌-◌, [], ◌∷◌, ℕ, List, length, take, drop}
use Rattle.lite_buffered.specs.Uses.{◌∙◌, inr, refl, ap, sym, subst, arith, length-take, length-take-le, take-take, drop-take, bytes, moved_marks}
use Rattle.lite_buffered.specs.Budgeted.{PacesMarks}

pub paced_bytes : (budget left : ℕ) (xs : List ℕ) → length xs ≤ left
    → PacesMarks (budget, left) (bytes xs) (bytes xs) (budget, left - length xs)
paced_bytes budget left [] h = (refl, let whole : left - 0 ≡ left = omega arith in rw whole refl)
paced_bytes budget left (x ∷ xs) h =
    let e : left - 1 - length xs ≡ left - length (x ∷ xs) = omega arith in
    inr (
      λ none. omega (arith, none, h),
      bytes xs,
      refl,
      subst (λ k. PacesMarks (budget, left - 1) (bytes xs) (bytes xs) (budget, k)) e
          (paced_bytes budget (left - 1) xs (omega (arith, h))),
    )

pub paced_moved : (budget left : ℕ) (buf xs : List ℕ) → length xs ≤ left → 0 < left → 0 < length buf
    → PacesMarks (budget, left) (moved_marks buf xs) (moved_marks buf xs) (budget, left - length xs)
paced_moved budget left buf (x ∷ xs) fits some room = paced_bytes budget left (x ∷ xs) fits
paced_moved budget left [] [] fits some room = absurd (omega (arith, room))
paced_moved budget left (b ∷ buf) [] fits some room =
    let whole : left - 0 ≡ left = omega arith in
    inr (λ none. omega (arith, none, some), [], refl, (refl, rw whole refl))

-- the first n of the bytes that are lent, up to what is left of the budget, are consumed
module _ (left n : ℕ) (shown : List ℕ) (fits : n ≤ length (take left shown)) where
  pub consumed_bytes : (budget : ℕ) → (take n (take left shown) ≡ take n shown)
      × PacesMarks (budget, left) (bytes (take n shown)) (bytes (take n shown)) (budget, left - n)
  consumed_bytes budget =
      let within : n ≤ length shown = omega (arith, fits, length-take left shown) in
      let len : length (take n shown) ≡ n = length-take-le n shown within in (
        grind (arith, take-take, length-take),
        subst (λ k. PacesMarks (budget, left) (bytes (take n shown)) (bytes (take n shown)) (budget, left - k)) len
            (paced_bytes budget left (take n shown) (omega (arith, len, fits, length-take left shown))),
      )

  pub consumed_rest : take (left - n) (drop n shown) ≡ drop n (take left shown)
  consumed_rest =
      let whole : n + (left - n) ≡ left = omega (arith, fits, length-take left shown) in
      sym (drop-take n (left - n) shown) ∙ ap (λ k. drop n (take k shown)) whole
