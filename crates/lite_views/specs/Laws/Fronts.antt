-- Laws of prefixes of lists.
use Rattle.std.specs.Prelude.{ℕ, List, [], ◌∷◌, map, refl, Bool}
use Rattle.std.proofs.Common.{◌≤◌}
use Rattle.lite_views.specs.Uses.{map-append, zero, suc, ◌∙◌, length, take, ap, arith, filter, filter-append}
use Rattle.lite_views.specs.Lists.{Front}

pub front_map : {A B : Type 0} (f : A → B) (xs ys : List A) → Front xs ys → Front (map f xs) (map f ys)
front_map f xs ys h = (map f h.0, ap (map f) h.1 ∙ map-append f xs h.0)

pub front_filter : {A : Type 0} (test : A → Bool) (xs ys : List A) → Front xs ys
    → Front (filter test xs) (filter test ys)
front_filter test xs ys h = (filter test h.0, ap (filter test) h.1 ∙ filter-append test xs h.0)

-- A prefix that is no longer than `n` is a prefix of the first `n` elements.
pub front_take : {A : Type 0} (n : ℕ) (xs ys : List A) → length xs ≤ n → Front xs ys → Front xs (take n ys)
front_take n [] ys short h = (take n ys, refl)
front_take zero (x ∷ xs) ys short h = absurd (omega (arith, short))
front_take (suc n) (x ∷ xs) [] short h = cc
front_take (suc n) (x ∷ xs) (y ∷ ys) short h =
    let rest = front_take n xs ys (omega (arith, short)) (h.0, cc (h.1)) in
    (rest.0, let e = h.1 in let k = rest.1 in cc)
