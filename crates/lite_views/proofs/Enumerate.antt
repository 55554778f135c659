-- The items of `enumerate`, by those of its source.
use Rattle.std.specs.Prelude.{◌≡◌, ℕ, ◌%◌, List, [], ◌∷◌, refl, ⊤}
use Rattle.std.proofs.Common.{◌<◌, ◌+◌, ◌^◌}
use Rattle.lite_views.specs.Uses.{length, arith, enumerate_from, Answer, Always, Runs, Exchanges}
use Rattle.lite_stream.specs.Enumerate.{Enumerates, Numbers, enumerate_parts}
use Rattle.lite_stream.specs.declared.enumerate.Enumerate.{Enumerate}
use Rattle.std.proofs.Math.Nat.{mod-eq_of_lt}
use Rattle.lite_views.proofs.Views.{listed_through}
use Rattle.lite_views.specs.Views.{Lists, ListsAs}
use Rattle.lite_views.proofs.Carrying.{exchanged_fits}

abbrev wrapped_from : {A : Type 0} → ℕ → List A → List (ℕ × A)
wrapped_from n [] = []
wrapped_from n (x ∷ xs) = (n, x) ∷ wrapped_from ((n + 1) % 2 ^ 64) xs

never_wraps : {A : Type 0} (n : ℕ) (xs : List A) → n + length xs < 2 ^ 64 → wrapped_from n xs ≡ enumerate_from n xs
never_wraps n [] h = refl
never_wraps n (x ∷ xs) h =
    let next : (n + 1) % 2 ^ 64 ≡ n + 1 = mod-eq_of_lt (omega (arith, h)) in
    rw next (rw (never_wraps (n + 1) xs (omega (arith, h))))

pub enumerated_lists : {S A : Type 0} (run : Runs (Answer A) S) (x : Enumerate S) (xs : List A) → x.i ≡ 0
    → length xs < 2 ^ 64 → Lists run x.stream xs → ListsAs (Enumerates run) x (enumerate_from 0 xs)
enumerated_lists {A} run x xs first small lists =
    rw (← never_wraps 0 xs (omega (arith, small)))
    (listed_through enumerate_parts run (Exchanges (Always Numbers)) x xs (wrapped_from 0 xs) lists
    (rw first
    (exchanged_fits (Always Numbers) (λ p. ⊤) wrapped_from (λ p g. refl)
    (λ p q y z l g c. (rw (c.0, c.1), tt)) (λ p q y l g. absurd) 0 xs tt)))
