-- The items of `filter_map`, by those of its source.
use Rattle.std.specs.Prelude.{◌≡◌, List, [], ◌∷◌, refl, Option, Some, None}
use Rattle.std.proofs.Common.{◌≤◌}
use Rattle.lite_views.specs.Uses.{length, arith, filter_map, Answer, Question, LeavesOut, Runs}
use Rattle.lite_reshape.specs.FilterMap.{FilterMaps, filter_map_parts}
use Rattle.lite_reshape.specs.declared.filter_map.FilterMap.{FilterMap}
use Rattle.lite_views.specs.Views.{Lists, ListsAs}
use Rattle.lite_views.proofs.Views.{AnswersAs, Carries, answered, listed_through}
use Rattle.lite_views.proofs.Carrying.{left_fits, option_fewer}

-- a closure that acts as h from f on
module _ {F A B : Type 0} (call : Question F A (Option B)) (f : F) (h : A → Option B) (acts : AnswersAs call f h) where
  module _ (xs : List A) where
    pub filter_mapped_fits : Carries (LeavesOut call) f xs (filter_map h xs)
    filter_mapped_fits =
        left_fits call (λ p. p ≡ f) (λ p. filter_map h) (λ p g. refl)
        (λ p q x y l g c. let a = answered call f h acts p q x (Some y) g c in (rw a.1, a.0))
        (λ p q x l g c. let a = answered call f h acts p q x None g c in (rw a.1, a.0)) f xs refl

pub filter_mapped_lists : {S F A B : Type 0} (run : Runs (Answer A) S) (call : Question F A (Option B))
    (x : FilterMap S F) (h : A → Option B) (xs : List A) → Lists run x.stream xs → AnswersAs call x.f h
    → ListsAs (FilterMaps run call) x (filter_map h xs)
filter_mapped_lists run call x h xs lists acts =
    listed_through filter_map_parts run (LeavesOut call) x xs (filter_map h xs) lists (filter_mapped_fits call x.f h acts xs)

-- no more items come out than go in
module _ {A B : Type 0} (h : A → Option B) where
  pub filter_map_fewer : (xs : List A) → length (filter_map h xs) ≤ length xs
  filter_map_fewer [] = omega arith
  filter_map_fewer (x ∷ xs) = option_fewer (h x) (filter_map h xs) (length xs) (filter_map_fewer xs)
