-- The items of `scan`, by those of its source.
use Rattle.std.specs.Prelude.{◌≡◌, List, [], ◌∷◌, refl, Option, Some, None}
use Rattle.std.proofs.Common.{◌≤◌}
use Rattle.lite_views.specs.Uses.{length, subst, arith, Exchanges}
use Rattle.lite_views.proofs.Views.{Carries}
use Rattle.lite_views.specs.Lists.{scan}
use Rattle.lite_views.proofs.Carrying.{exchanged_fits, while_fewer}

pub scanned_fits : {F V A B : Type 0} (call : F × V → A → Option B → F × V → Type 0) (h : V → A → V × Option B) (f : F)
    (v : V) → ((s : V) (x : A) (o : Option B) (g : F) (t : V) → call (f, s) x o (g, t)
    → (g ≡ f) × (t ≡ (h s x).0) × (o ≡ (h s x).1)) → (xs : List A) → Carries (Exchanges call) (f, v) xs (scan h v xs)
scanned_fits {F} {V} {A} {B} call h f v acts xs =
    exchanged_fits call (λ p. p.0 ≡ f) (λ p. scan h p.1) (λ p g. refl)
    (λ p r x y l g c. let a = again p r x (Some y) g c in (rw (← a.2, ← a.1), a.0))
    (λ p r x l g c. rw (← (again p r x None g c).2)) (f, v) xs refl
  where
    again : (p r : F × V) (x : A) (o : Option B) → p.0 ≡ f → call p x o r
        → (r.0 ≡ f) × (r.1 ≡ (h p.1 x).0) × (o ≡ (h p.1 x).1)
    again p r x o g c = acts p.1 x o r.0 r.1 (subst (λ z. call (z, p.1) x o r) g c)

-- no more items come out than go in
pub scan_fewer : {V A B : Type 0} (h : V → A → V × Option B) (s : V) (xs : List A) → length (scan h s xs) ≤ length xs
scan_fewer h s [] = omega arith
scan_fewer h s (x ∷ xs) =
    while_fewer (h s x).1 (scan h (h s x).0 xs) (length xs) (scan_fewer h (h s x).0 xs)
