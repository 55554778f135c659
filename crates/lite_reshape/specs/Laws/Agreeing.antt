-- Laws about adapters that leave items out: their results, `Pending`s aside, do not depend on when the source was
-- pending.
use Rattle.std.specs.Prelude.{◌≡◌, List, ◌∷◌, Option, Some, None, Bool, true, false, ⊤}
use Rattle.lite_reshape.specs.Uses.{refl, OptionBy, SameAnswer, SameItem, Sameness, strip, Accepts, AgreeFrom}
use Rattle.lite_reshape.specs.Uses.{AgreeKeeping, Keeping, both_items, ends_same, same_answer, MatchesFrom}
use Rattle.lite_reshape.specs.Uses.{agree_from_matches, Question, AgreeingOver, Entails, AllByRecursion, Ready, Pending}
use Rattle.lite_reshape.specs.Uses.{Answer, ComparableBy, OfItem}
use Rattle.lite_base.specs.Laws.Calling.{accepts_matches, keeping_matches, matches_agree_from}
use Rattle.lite_stream.specs.Laws.Placed.{AlikeInPlace, Placed, placed_agreeing}
use Rattle.lite_reshape.specs.Laws.Leaving.{leaves_steps}
use Rattle.lite_reshape.specs.Leaving.{LeavesOut, Selects}
use Rattle.lite_reshape.specs.SkipWhile.{SkipsUntil}
use Rattle.lite_reshape.specs.Cloned.{Refers}

-- A kept item is one result, and a rejected one is none.
abbrev KeptInPlace : {B : Type 0} → Option B → (List (Option B) → Type 0) → List (Option B) → Type 0
KeptInPlace None follows out = follows out
KeptInPlace {B} (Some y) follows out = (more : List (Option B)) × (out ≡ Some y ∷ more) × follows more

module _ {F A B : Type 0} (call : Question F A (Option B)) where
  stripped : Entails (LeavesOut call) (λ f i o g. Placed call KeptInPlace f (strip i) (strip o))
  stripped f g i o =
      leaves_steps call (λ p i o. Placed call KeptInPlace p (strip i) (strip o)) (λ p m x i b o t h. (None, m, t, h))
      (λ p i o h. h) (λ p i o h. (strip o, refl, h))
      (λ p m x i y o t h. (Some y, m, t, (strip o, refl, h))) f g i o refl

  keeps_alike : (same : Sameness B) → AlikeInPlace call KeptInPlace same (SameAnswer same)
  keeps_alike same None None P Q o p e r q rest = rest o p r q
  keeps_alike same None (Some z) P Q o p e r q rest = absurd (both_items same None _ e)
  keeps_alike same (Some y) None P Q o p e r q rest = absurd (both_items same _ None e)
  keeps_alike same (Some y) (Some z) P Q o p e r q rest = rw (r.1, q.1) (e, rest r.0 q.0 r.2 q.2)

  -- From states that agree, calls with items that correspond return what is the same.
  module _ (like : Sameness A) where
    pub leaves_agreeing : (same : Sameness B) {agree : F → F → Type 0}
        → MatchesFrom (SameItem like) (SameAnswer same) call agree → AgreeingOver like same (LeavesOut call) agree
    leaves_agreeing same m = placed_agreeing call KeptInPlace like same m (keeps_alike same) stripped

    -- The case of closures that return an `Option`, of which `Some` is yielded.
    pub leaves_keeping : AgreeingOver like (Keeping like call) (LeavesOut call) (AgreeKeeping like call)
    leaves_keeping = leaves_agreeing _ (keeping_matches like call)

-- The case of items that are yielded as the source yields them, or left out.
module _ {F A : Type 0} where
  -- By a test.
  pub leaves_testing : (test : Question F A Bool) (like : Sameness A)
      → AgreeingOver like like (LeavesOut (Accepts test)) (AgreeFrom (SameItem like) (λ y z. y ≡ z) test)
  leaves_testing test like = leaves_agreeing _ like like (accepts_matches like test)

  -- By states that agree: both keep items that are the same, or neither does, and then the states agree again.
  pub leaves_selecting : (keeps : F → A → Bool) (next : F → A → F) (like : Sameness A) (agree : F → F → Type 0)
      → ((p q : F) (x w : A) → agree p q → SameItem like x w → (keeps p x ≡ keeps q w) × agree (next p x) (next q w))
      → AgreeingOver like like (LeavesOut (Selects keeps next)) agree
  leaves_selecting keeps next like agree both f k g l i j o p a =
      leaves_testing test like f k g l i j o p
      (matches_agree_from (SameItem like) (λ y z. y ≡ z) test agree
      (λ f k g l x w y z a e c d. rw (← c.0, ← d.0, c.1, d.1) (both f k x w a e)) f k a)
    where
      test : Question F A Bool
      test p x kept q = (keeps p x ≡ kept) × (q ≡ next p x)

-- The case of `skip_while`: the predicates agree, or both are gone.
module _ {F A : Type 0} (test : Question F A Bool) (like : Sameness A) where
  -- Two predicates return the same for items that are the same.
  abbrev TestsAgree : F → F → Type 0
  TestsAgree = AgreeFrom (SameItem like) (λ y z. y ≡ z) test

  until_matches : MatchesFrom (SameItem like) (SameAnswer like) (SkipsUntil test) (OptionBy TestsAgree)
  until_matches None None p q x w None z e s a c = absurd a
  until_matches None None p q x w (Some y) None e s a c = absurd c
  until_matches None None p q x w (Some y) (Some z) e s a c = rw (a.0, c.0, a.1, c.1) (same_answer like x w s, tt)
  until_matches None (Some k) p q x w y z e s a c = absurd e
  until_matches (Some f) None p q x w y z e s a c = absurd e
  until_matches (Some f) (Some k) p q x w y z e s a c = both y z a c
    where
      tested : (b d : Bool) (g l : F) → test f x b g → test k w d l → (b ≡ d) × TestsAgree g l
      tested b d g l = agree_from_matches (SameItem like) (λ y z. y ≡ z) test f k g l x w b d e s

      both : (y z : Option A) → SkipsUntil test (Some f) x y p → SkipsUntil test (Some k) w z q
          → SameAnswer like y z × OptionBy TestsAgree p q
      both None None a c = rw (a.1, c.1) (ends_same like, (tested true true a.0 c.0 a.2 c.2).1)
      both None (Some z) a c = absurd (let t = (tested true false a.0 c.0 a.2 c.3).0 in cc)
      both (Some y) None a c = absurd (let t = (tested false true a.0 c.0 a.3 c.2).0 in cc)
      both (Some y) (Some z) a c = rw (a.1, c.1, a.2, c.2) (same_answer like x w s, tt)

  pub leaves_until : AgreeingOver like like (LeavesOut (SkipsUntil test)) (OptionBy TestsAgree)
  leaves_until = leaves_agreeing _ like like until_matches

-- Laws about values that are made of alike items.

-- If each item is the same as those that it is alike to, the lists are the same.
module _ {A : Type 0} (like same : A → A → Type 0) where
  pub items_same : (l : List (Answer A)) (m : List (Option A))
      → AllByRecursion (OfItem (λ x. (y : A) → like x y → same x y)) l → ComparableBy (OptionBy like) (strip l) m
      → ComparableBy (OptionBy same) (strip l) m
  items_same (Pending ∷ l) m each c = items_same l m each.1 c
  items_same (Ready None ∷ l) (None ∷ m) each c = (tt, items_same l m each.1 c.1)
  items_same (Ready (Some x) ∷ l) (Some y ∷ m) each c = (each.0 x refl y c.0, items_same l m each.1 c.1)
  items_same (Ready _ ∷ l) (_ ∷ m) each c = absurd c.0
  items_same _ _ each c = tt

-- The case in which the value that is made of an item is the item.
pub refers_match : {R : Type 0} (like : R → R → Type 0) → MatchesFrom like like Refers (λ (p q : Unit {0}). ⊤)
refers_match like f k g l x w y z a e c d = (rw (c, d) e, tt)
