-- The items of `map_while`, by those of its source.
use Rattle.std.specs.Prelude.{◌≡◌, List, [], ◌∷◌, refl, Option, Some, None}
use Rattle.std.proofs.Common.{◌≤◌}
use Rattle.lite_views.specs.Uses.{length, arith, Answer, Question, Exchanges, Runs}
use Rattle.lite_stream.specs.MapWhile.{MapsWhile, map_while_parts}
use Rattle.lite_stream.specs.declared.map_while.MapWhile.{MapWhile}
use Rattle.lite_views.specs.Views.{Lists, ListsAs}
use Rattle.lite_views.proofs.Views.{AnswersAs, Carries, answered, listed_through}
use Rattle.lite_views.specs.Lists.{map_while}
use Rattle.lite_views.proofs.Carrying.{exchanged_fits, while_fewer}

-- a closure that acts as h from f on
module _ {F A B : Type 0} (call : Question F A (Option B)) (f : F) (h : A → Option B) (acts : AnswersAs call f h) where
  module _ (xs : List A) where
    pub mapped_while_fits : Carries (Exchanges call) f xs (map_while h xs)
    mapped_while_fits =
        exchanged_fits call (λ p. p ≡ f) (λ p. map_while h) (λ p g. refl)
        (λ p q x y l g c. let a = answered call f h acts p q x (Some y) g c in (rw a.1, a.0))
        (λ p q x l g c. let a = answered call f h acts p q x None g c in rw a.1) f xs refl

pub mapped_while_lists : {S F A B : Type 0} (run : Runs (Answer A) S) (call : Question F A (Option B))
    (x : MapWhile S F) (h : A → Option B) (xs : List A) → Lists run x.stream xs → AnswersAs call x.f h
    → ListsAs (MapsWhile run call) x (map_while h xs)
mapped_while_lists run call x h xs lists acts =
    listed_through map_while_parts run (Exchanges call) x xs (map_while h xs) lists (mapped_while_fits call x.f h acts xs)

-- no more items come out than go in
module _ {A B : Type 0} (h : A → Option B) where
  pub map_while_fewer : (xs : List A) → length (map_while h xs) ≤ length xs
  map_while_fewer [] = omega arith
  map_while_fewer (x ∷ xs) = while_fewer (h x) (map_while h xs) (length xs) (map_while_fewer xs)
