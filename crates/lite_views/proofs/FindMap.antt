-- The value of `find_map`, by the items of the stream.
use Rattle.std.specs.Prelude.{◌≡◌, List, [], ◌∷◌, Option, Some, None}
use Rattle.lite_views.specs.Uses.{inl, inr, filter_map, slice_get, Question, fold_of}
use Rattle.lite_consume.specs.FindMap.{finds_map}
use Rattle.lite_consume.specs.declared.find_map.FindMap.{FindMap}
use Rattle.lite_views.proofs.Views.{AnswersAs, answered}
use Rattle.lite_views.proofs.Consume.{MakesOnly}

module _ {F A B : Type 0} (call : Question F A (Option B)) (f : F) (h : A → Option B) (acts : AnswersAs call f h) where
  pub find_map_made : (p : FindMap F) (xs : List A) → p.f ≡ f
      → MakesOnly (fold_of (λ m. m.f) (finds_map call)) p xs (slice_get (filter_map h xs) 0)
  find_map_made p [] e v (q, s) = s.0
  find_map_made p (x ∷ xs) e v (inl (q, s, more)) =
      let a = answered call f h acts p.f q.f x None e s in
      rw a.1 (find_map_made q xs a.0 v more)
  find_map_made p (x ∷ xs) e None (inr (q, s)) = cc
  find_map_made p (x ∷ xs) e (Some y) (inr (q, s)) = let a = answered call f h acts p.f q.f x (Some y) e s.1 in rw a.1
