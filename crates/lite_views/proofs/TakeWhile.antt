-- The items of `take_while`, by those of its source.
use Rattle.std.specs.Prelude.{◌≡◌, ℕ, List, [], ◌∷◌, refl, Bool, true, false, cond, Option, Some, None}
use Rattle.std.proofs.Common.{◌+◌}
use Rattle.lite_views.specs.Uses.{suc, take, ap, arith, prefix_len, Accepts, Question, Exchanges}
use Rattle.std.specs.List.{take_while}
use Rattle.lite_views.proofs.Views.{AnswersAs, Carries}
use Rattle.lite_views.specs.Lists.{cons_while, map_while}
use Rattle.lite_views.proofs.MapWhile.{mapped_while_fits}

-- a test
module _ {A : Type 0} (test : A → Bool) where
  -- the item, where it passes
  abbrev passed : A → Option A
  passed x = cond (test x) (Some x) None

  while_all : (xs : List A) → map_while passed xs ≡ take_while test xs
  while_all [] = refl
  while_all (x ∷ xs) = by (test x) (prefix_len test xs) (while_all xs)
    where
      by : {l : List A} (b : Bool) (n : ℕ) → l ≡ take n xs
          → cons_while (cond b (Some x) None) l ≡ take (cond b (1 + n) 0) (x ∷ xs)
      by true n e = let one : 1 + n ≡ suc n = omega arith in rw (one, e)
      by false n e = refl

module _ {F A : Type 0} (asked : Question F A Bool) (f : F) (test : A → Bool) (acts : AnswersAs asked f test) where
  accepts : AnswersAs (Accepts asked) f (passed test)
  accepts x None g c = let a = acts x false g c in (a.0, rw (← a.1))
  accepts x (Some y) g c = let a = acts x true g c.1 in (a.0, rw (← a.1) (ap Some c.0))

  module _ (xs : List A) where
    pub taken_while_fits : Carries (Exchanges (Accepts asked)) f xs (take_while test xs)
    taken_while_fits = rw (← while_all) (mapped_while_fits (Accepts asked) f (passed test) accepts xs)
