-- A buffer of which nothing is used holds nothing.
use Rattle.std.proofs.Common.{◌≡◌, ◌∙◌, ℕ, suc, zero, ◌-◌, List, [], ◌∷◌, arith, ap, refl, slice_range, take}
use Rattle.std.proofs.Math.Seq.{drop-nil, take-nil}

pub none_held : (xs : List ℕ) (i j : ℕ) → take j xs ≡ [] → slice_range xs i j ≡ []
none_held [] i j e = ap (take (j - i)) (drop-nil i) ∙ take-nil (j - i)
none_held (x ∷ xs) i zero e = let nothing : 0 - i ≡ 0 = omega arith in rw nothing refl
none_held (x ∷ xs) i (suc j) e = absurd cc
