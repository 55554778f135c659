-- The items of `skip`, by those of its source.
use Rattle.std.specs.Prelude.{◌≡◌, ◌==◌, ◌-◌, ℕ, List, [], ◌∷◌, refl}
use Rattle.std.proofs.Common.{ne_eqb}
use Rattle.lite_views.specs.Uses.{zero, suc, ap, arith, drop, Answer, Runs, LeavesOut}
use Rattle.lite_reshape.specs.Skip.{Skips, SkipsFirst, skip_parts}
use Rattle.lite_reshape.specs.declared.skip.Skip.{Skip}
use Rattle.lite_views.proofs.Views.{listed_through}
use Rattle.lite_views.specs.Views.{Lists, ListsAs}
use Rattle.lite_views.proofs.Carrying.{selected, selected_fits}

skipped : {A : Type 0} (n : ℕ) (xs : List A) → selected (λ n x. n == 0) (λ n x. n - 1) n xs ≡ drop n xs
skipped zero [] = refl
skipped (suc n) [] = refl
skipped zero (x ∷ xs) = ap (λ l. x ∷ l) (skipped zero xs)
skipped (suc n) (x ∷ xs) =
    let less : suc n - 1 ≡ n = omega arith in rw (less, ne_eqb (suc n) 0 (omega arith)) (skipped n xs)

pub skipped_lists : {S A : Type 0} (run : Runs (Answer A) S) (x : Skip S) (xs : List A) → Lists run x.stream xs
    → ListsAs (SkipsFirst run) x (drop x.n xs)
skipped_lists run x xs lists =
    listed_through skip_parts run (LeavesOut Skips) x xs (drop x.n xs) lists
    (rw (← skipped x.n xs) (selected_fits _ _ x.n xs))
