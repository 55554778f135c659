-- The value of `try_fold`, by the items of the stream.
use Rattle.std.specs.Prelude.{◌≡◌, List, [], ◌∷◌, Some, Result, Ok, Err}
use Rattle.lite_views.specs.Uses.{TryFold, inl, inr, fold_of, try_fold_steps}
use Rattle.lite_views.specs.Trying.{try_fold}
use Rattle.lite_views.proofs.Consume.{MakesOnly}

module _ {F T B E : Type 0} (call : F → B × T → Result B E → F → Type 0) (h : B → T → Result B E) (f : F)
    (acts : (a : B) (x : T) (r : Result B E) (g : F) → call f (a, x) r g → (g ≡ f) × (r ≡ h a x)) where
  pub try_fold_made : (p : TryFold F B) (a : B) (xs : List (Result T E)) → p.f ≡ f → p.acc ≡ Some a
      → MakesOnly (fold_of (λ m. (m.f, m.acc)) (try_fold_steps call)) p xs (try_fold h a xs)
  try_fold_made p a [] e d v (q, s) = cc
  try_fold_made p a (Ok x ∷ xs) e d v (inl (q, s, more)) =
      let same : s.0 ≡ a = (let k = s.2 in cc) in
      let step = acts a x (Ok s.1) q.f (rw (← same, ← e) s.3) in
      rw (← step.1) (try_fold_made q s.1 xs step.0 s.4 v more)
  try_fold_made p a (Ok x ∷ xs) e d v (inr (q, s)) =
      let same : s.0 ≡ a = (let k = s.2 in cc) in
      let step = acts a x (Err s.1) q.f (rw (← same, ← e) s.3) in
      rw (← step.1) s.4
  try_fold_made p a (Err w ∷ xs) e d v (inl (q, s, more)) = absurd s
  try_fold_made p a (Err w ∷ xs) e d v (inr (q, s)) = s.0
