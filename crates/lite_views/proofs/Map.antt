-- The items of `map`, by those of its source.
use Rattle.std.specs.Prelude.{◌≡◌, List, [], ◌∷◌, map, refl, Some, None}
use Rattle.lite_views.specs.Uses.{ap, Always, Question, Exchanges}
use Rattle.lite_views.proofs.Views.{AnswersAs, Carries}
use Rattle.lite_views.specs.Lists.{map_while}
use Rattle.lite_views.proofs.MapWhile.{mapped_while_fits}

map_all : {A B : Type 0} (h : A → B) (xs : List A) → map_while (λ x. Some (h x)) xs ≡ map h xs
map_all h [] = refl
map_all h (x ∷ xs) = rw (map_all h xs)

pub mapped_fits : {F A B : Type 0} (call : Question F A B) (f : F) (h : A → B) → AnswersAs call f h → (xs : List A)
    → Carries (Exchanges (Always call)) f xs (map h xs)
mapped_fits call f h acts xs = rw (← map_all) (mapped_while_fits (Always call) f (λ x. Some (h x)) always xs)
  where
    always : AnswersAs (Always call) f (λ x. Some (h x))
    always x None g c = absurd c
    always x (Some y) g c = let a = acts x y g c in (a.0, ap Some a.1)
