-- The value of `fold`, by the items of the stream.
use Rattle.std.specs.Prelude.{◌≡◌, List, [], ◌∷◌, Some}
use Rattle.lite_views.specs.Uses.{inl, inr, fold_of, folds}
use Rattle.std.specs.List.{fold}
use Rattle.lite_consume.specs.declared.fold.Fold.{Fold as FoldFolder}
use Rattle.lite_views.proofs.Consume.{MakesOnly}

module _ {F T A : Type 0} (call : F → T × A → T → F → Type 0) (h : T → A → T) (f : F)
    (acts : (a : T) (x : A) (b : T) (g : F) → call f (a, x) b g → (g ≡ f) × (b ≡ h a x)) where
  pub fold_made : (p : FoldFolder F T) (a : T) (xs : List A) → p.f ≡ f → p.acc ≡ Some a
      → MakesOnly (fold_of (λ m. (m.f, m.acc)) (folds call)) p xs (fold h a xs)
  fold_made p a [] e d v (q, s) = cc
  fold_made p a (x ∷ xs) e d v (inr (q, s)) = absurd s
  fold_made p a (x ∷ xs) e d v (inl (q, s, more)) =
      let same : s.0 ≡ a = (let k = s.2 in cc) in
      let step = acts a x s.1 q.f (rw (← same, ← e) s.3) in
      fold_made q (h a x) xs step.0 (rw (← step.1) s.4) v more
