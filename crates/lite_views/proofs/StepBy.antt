-- The items of `step_by`, by those of its source.
use Rattle.std.specs.Prelude.{◌≡◌, ◌==◌, ℕ, ◌%◌, List, [], ◌∷◌, map, refl, Bool, true, false, cond}
use Rattle.std.proofs.Common.{◌≤◌, ◌+◌}
use Rattle.lite_views.specs.Uses.{◌∙◌, length, ap, sym, arith, enumerate_from, filter, Answer, Runs, LeavesOut}
use Rattle.lite_reshape.specs.StepBy.{Numbered, StepsBy, StepsOn, step_by_parts}
use Rattle.lite_reshape.specs.declared.step_by.StepBy.{StepBy}
use Rattle.std.proofs.Math.Nat.{mod-add-mod, zero-mod}
use Rattle.lite_views.proofs.Views.{Carries, listed_through}
use Rattle.lite_views.specs.Lists.{step_from}
use Rattle.lite_views.specs.Views.{Lists, ListsAs}
use Rattle.lite_views.proofs.Carrying.{selected, selected_fewer, selected_fits}

module _ {A : Type 0} (step : ℕ) where
  numbered : (n : ℕ) (xs : List A) → selected (λ n x. n % step == 0) (λ n x. n + 1) n xs ≡ step_from step n xs
  numbered n [] = refl
  numbered n (x ∷ xs) = rw (numbered (n + 1) xs) (by (n % step == 0) (filter (λ p. p.0 % step == 0) (enumerate_from (n + 1) xs)))
    where
      by : (b : Bool) (l : List (ℕ × A)) → cond b (x ∷ map (λ p. p.1) l) (map (λ p. p.1) l)
          ≡ map (λ p. p.1) (cond b ((n, x) ∷ l) l)
      by true l = refl
      by false l = refl

  -- the numbers may begin at any multiple of the step
  from_multiple : (n k : ℕ) (xs : List A) → n % step ≡ k % step → step_from step n xs ≡ step_from step k xs
  from_multiple n k [] h = refl
  from_multiple n k (x ∷ xs) h =
      rw h
      (by (k % step == 0) _ _
      (from_multiple (n + 1) (k + 1) xs (sym (mod-add-mod n step 1) ∙ rw h (mod-add-mod k step 1))))
    where
      by : (b : Bool) (l m : List (ℕ × A)) → map (λ p. p.1) l ≡ map (λ p. p.1) m
          → map (λ p. p.1) (cond b ((n, x) ∷ l) l) ≡ map (λ p. p.1) (cond b ((k, x) ∷ m) m)
      by true l m e = ap (λ l. x ∷ l) e
      by false l m e = e

  numbered_fits : (n : ℕ) (xs : List A) → Carries (LeavesOut (Numbered step)) n xs (step_from step n xs)
  numbered_fits n xs = rw (← numbered n xs) (selected_fits _ _ n xs)

  stepped_fits : (xs : List A) → Carries StepsOn (step, 0) xs (step_from step 0 xs)
  stepped_fits xs i [] q e h = tt
  stepped_fits xs i (b ∷ o) q e (same, n, m, at, later, left) =
      let multiple : n % step ≡ 0 % step = ap (λ k. k % step) (sym (omega arith)) ∙ at.1 ∙ sym (zero-mod step) in
      rw (← from_multiple n 0 xs multiple) (numbered_fits n xs i (b ∷ o) m e left)

pub stepped_lists : {S A : Type 0} (run : Runs (Answer A) S) (x : StepBy S) (xs : List A) → x.i ≡ 0
    → Lists run x.stream xs → ListsAs (StepsBy run) x (step_from x.step 0 xs)
stepped_lists run x xs first lists =
    listed_through step_by_parts run StepsOn x xs (step_from x.step 0 xs) lists (rw first (stepped_fits x.step xs))

-- no more items come out than go in
pub step_fewer : {A : Type 0} (step n : ℕ) (xs : List A) → length (step_from step n xs) ≤ length xs
step_fewer step n xs = rw (← numbered step n xs) (selected_fewer _ _ n xs)
