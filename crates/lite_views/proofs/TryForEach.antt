-- The value of `try_for_each`, by the items of the stream.
use Rattle.std.specs.Prelude.{◌≡◌, List, [], ◌∷◌, map, Result, Ok, Err}
use Rattle.lite_views.specs.Uses.{inl, inr, Question, fold_of}
use Rattle.lite_consume.specs.TryForEach.{try_each_fold}
use Rattle.lite_consume.specs.declared.try_for_each.TryForEach.{TryForEach}
use Rattle.lite_views.proofs.Views.{AnswersAs, answered}
use Rattle.lite_views.specs.Trying.{first_error}
use Rattle.lite_views.proofs.Consume.{MakesOnly}

module _ {F A E : Type 0} (call : Question F A (Result (Unit {0}) E)) (f : F) (h : A → Result (Unit {0}) E)
    (acts : AnswersAs call f h) where
  pub try_for_each_made : (p : TryForEach F) (xs : List A) → p.f ≡ f
      → MakesOnly (fold_of (λ m. m.f) (try_each_fold call)) p xs (first_error (map h xs))
  try_for_each_made p [] e v (q, s) = s.0
  try_for_each_made p (x ∷ xs) e v (inl (q, s, more)) =
      let a = answered call f h acts p.f q.f x (Ok tt) e s in
      rw a.1 (try_for_each_made q xs a.0 v more)
  try_for_each_made p (x ∷ xs) e (Ok u) (inr (q, s)) = cc
  try_for_each_made p (x ∷ xs) e (Err w) (inr (q, s)) =
      let a = answered call f h acts p.f q.f x (Err w) e s.1 in rw a.1
