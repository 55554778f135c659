-- The items of `filter`, by those of its source.
use Rattle.std.specs.Prelude.{◌≡◌, List, [], ◌∷◌, refl, Bool, true, false, cond, Option, Some, None}
use Rattle.std.proofs.Common.{◌≤◌}
use Rattle.lite_views.specs.Uses.{length, ap, cons_option, filter, filter_map, Accepts, Question, LeavesOut}
use Rattle.lite_views.proofs.Views.{AnswersAs, Carries}
use Rattle.lite_views.proofs.FilterMap.{filter_mapped_fits, filter_map_fewer}

-- a test
module _ {A : Type 0} (test : A → Bool) where
  -- the item, where it passes
  abbrev passed : A → Option A
  passed x = cond (test x) (Some x) None

  filter_all : (xs : List A) → filter_map passed xs ≡ filter test xs
  filter_all [] = refl
  filter_all (x ∷ xs) = by (test x) (filter_all xs)
    where
      by : {l m : List A} (b : Bool) → l ≡ m → cons_option (cond b (Some x) None) l ≡ cond b (x ∷ m) m
      by true e = ap (λ l. x ∷ l) e
      by false e = e

module _ {F A : Type 0} (asked : Question F A Bool) (f : F) (test : A → Bool) (acts : AnswersAs asked f test) where
  accepts : AnswersAs (Accepts asked) f (passed test)
  accepts x None g c = let a = acts x false g c in (a.0, rw (← a.1))
  accepts x (Some y) g c = let a = acts x true g c.1 in (a.0, rw (← a.1) (ap Some c.0))

  module _ (xs : List A) where
    pub filtered_fits : Carries (LeavesOut (Accepts asked)) f xs (filter test xs)
    filtered_fits = rw (← filter_all) (filter_mapped_fits (Accepts asked) f (passed test) accepts xs)

-- no more items come out than go in
pub filter_fewer : {A : Type 0} (test : A → Bool) (xs : List A) → length (filter test xs) ≤ length xs
filter_fewer test xs = rw (← filter_all) (filter_map_fewer (passed test) xs)
