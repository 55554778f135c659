-- The items of `with_budget`, by those of its source.
use Rattle.std.specs.Prelude.{ℕ, List, [], ◌∷◌, Some, None}
use Rattle.std.proofs.Common.{◌-◌}
use Rattle.lite_views.specs.Uses.{inl, inr, Ready, Pending, Answer, Runs}
use Rattle.lite_base.specs.Segments.{Paces, left_behind}
use Rattle.lite_merge.specs.Budgeted.{Budgets, PacesNoting, budget_parts}
use Rattle.lite_merge.specs.declared.budgeted.Budgeted.{Budgeted}
use Rattle.lite_views.proofs.Views.{Carries, listed_through}
use Rattle.lite_views.specs.Views.{Lists, ListsAs}

paced_fits : {A : Type 0} (p : ℕ × ℕ) (xs : List A) → Carries (Paces Pending left_behind) p xs xs
paced_fits p xs i [] q e h = tt
paced_fits p xs i (b ∷ o) q e (inl h) = rw h.1 (paced_fits (p.0, p.0) xs i o q e h.2)
paced_fits p xs i (Pending ∷ o) q e (inr h) = paced_fits (p.0, p.0) xs h.1 o q (rw h.2 at e) h.3
paced_fits p xs i (Ready None ∷ o) q e (inr h) = rw h.2 at e
paced_fits p [] i (Ready (Some x) ∷ o) q e (inr h) = absurd (rw h.2 at e)
paced_fits p (y ∷ xs) i (Ready (Some x) ∷ o) q e (inr h) =
    let here = rw h.2 at e in (here.0, paced_fits (p.0, p.1 - 1) xs h.1 o q here.1 h.3)

pub paced_lists : {S A : Type 0} (run : Runs (Answer A) S) (x : Budgeted S) (xs : List A) → Lists run x.stream xs
    → ListsAs (Budgets run) x xs
paced_lists run x xs lists =
    listed_through budget_parts run PacesNoting x xs xs lists
    (λ i o q e h. paced_fits (x.budget, x.left) xs i o (q.0, q.1) e h.0)
