-- The items of `skip_while`, by those of its source.
use Rattle.std.specs.Prelude.{◌≡◌, List, [], ◌∷◌, refl, ⊤, Bool, true, false, cond, Option, Some, None}
use Rattle.std.proofs.Common.{◌+◌}
use Rattle.lite_views.specs.Uses.{suc, drop, arith, prefix_len, Question, LeavesOut}
use Rattle.lite_reshape.specs.SkipWhile.{SkipsUntil}
use Rattle.lite_views.proofs.Views.{AnswersAs, Carries, answered}
use Rattle.lite_views.proofs.Carrying.{left_fits}

pub skipped_while_fits : {F A : Type 0} (asked : Question F A Bool) (f : F) (test : A → Bool)
    (acts : AnswersAs asked f test) (xs : List A)
    → Carries (LeavesOut (SkipsUntil asked)) (Some f) xs (drop (prefix_len test xs) xs)
skipped_while_fits {F} {A} asked f test acts xs =
    left_fits (SkipsUntil asked) Good made nothing gives drops (Some f) xs refl
  where
    Good : Option F → Type 0
    Good None = ⊤
    Good (Some p) = p ≡ f

    made : Option F → List A → List A
    made None xs = xs
    made (Some p) xs = drop (prefix_len test xs) xs

    nothing : (p : Option F) → Good p → made p [] ≡ []
    nothing None g = refl
    nothing (Some p) g = refl

    first : (b : Bool) (x : A) (l : List A) → test x ≡ b
        → drop (prefix_len test (x ∷ l)) (x ∷ l) ≡ cond b (drop (prefix_len test l) l) (x ∷ l)
    first true x l h = let n : 1 + prefix_len test l ≡ suc (prefix_len test l) = omega arith in rw (h, n)
    first false x l h = rw h

    drops : (p r : Option F) (x : A) (l : List A) → Good p → SkipsUntil asked p x None r → (made p (x ∷ l) ≡ made r l)
        × Good r
    drops None r x l g c = absurd c
    drops (Some p) r x l g c =
        let a = answered asked f test acts p c.0 x true g c.2 in rw c.1 (first true x l a.1, a.0)

    gives : (p r : Option F) (x y : A) (l : List A) → Good p → SkipsUntil asked p x (Some y) r
        → (made p (x ∷ l) ≡ y ∷ made r l) × Good r
    gives None r x y l g c = rw (c.0, c.1) (refl, tt)
    gives (Some p) r x y l g c =
        let a = answered asked f test acts p c.0 x false g c.3 in rw (c.1, c.2) (first false x l a.1, tt)
