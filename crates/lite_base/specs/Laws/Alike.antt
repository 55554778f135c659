-- Laws of futures that are alike, and of items that are the same.
use Rattle.std.specs.Prelude.{◌≡◌, ◌≤◌, List, [], ◌∷◌, length, Option, Some, None, refl, ⊤, ◌⊎◌}
use Rattle.lite_base.specs.Uses.{inl, inr, ap, subst, sym, arith, Poll, Ready, Pending}
use Rattle.lite_base.specs.Alike.{AlikeBy, Either, MadeOf, OptionBy, Optional, Pairwise, SameAnswer, SameHeld, SameItem, Sameness}
use Rattle.lite_base.specs.Answers.{ComparableBy, Gives, UpToValue, strip}
use Rattle.lite_base.specs.Spent.{Finishes}
use Rattle.lite_base.specs.Runs.{Runs}

module _ {A : Type 0} where
  pub comparable_nil : (same : A → A → Type 0) (l : List A) → ComparableBy same l []
  comparable_nil same [] = tt
  comparable_nil same (a ∷ l) = tt

  -- Lists of at most one value are the same if these values are.
  pub by_value : {same : A → A → Type 0} (i j : List A) → length i ≤ 1 → length j ≤ 1
      → ((v w : A) → i ≡ v ∷ [] → j ≡ w ∷ [] → same v w) → ComparableBy same i j
  by_value (v ∷ []) (w ∷ []) few fewer value = (value v w refl refl, tt)
  by_value (v ∷ []) (w ∷ x ∷ j) few fewer value = absurd (omega (arith, fewer))
  by_value (v ∷ x ∷ i) j few fewer value = absurd (omega (arith, few))
  by_value i j few fewer value = tt

  pub gives_strip : (l : List (Poll A)) (v : A) → Gives l v → strip l ≡ v ∷ []
  gives_strip [] v g = absurd g
  gives_strip (Pending ∷ l) v g = gives_strip l v g
  gives_strip (Ready y ∷ l) v g = rw (g.0, g.1)

  pub up_to_gives : (l : List (Poll A)) (v : A) → UpToValue l → strip l ≡ v ∷ [] → Gives l v
  up_to_gives [] v u e = absurd (cc e)
  up_to_gives (Pending ∷ l) v u e = up_to_gives l v u e
  up_to_gives (Ready y ∷ l) v u e = ((cc), u)

-- If both futures are polled until their values, these are the same by `same`.
abbrev pub AgreesBy : {F A : Type 0} → (A → A → Type 0) → Runs (Poll A) F → F → F → Type 0
AgreesBy {F} {A} same run x y = (l m : List (Poll A)) (v w : A) → Finishes run x l v → Finishes run y m w → same v w

pub alike_agrees : {F A : Type 0} {same : A → A → Type 0} (run : Runs (Poll A) F) (x y : F) → AlikeBy same run x y
    → AgreesBy same run x y
alike_agrees {same} run x y e l m v w h k =
    (rw (gives_strip l v h.gives, gives_strip m w k.gives) at (e l m h.last k.last h.came k.came)).0

module _ {A : Type 0} where
  -- Lists that are the same in one way are the same in a weaker way.
  pub comparable_as : (same want : A → A → Type 0) → ((x y : A) → same x y → want x y) → (l m : List A)
      → ComparableBy same l m → ComparableBy want l m
  comparable_as same want weaker (x ∷ l) (y ∷ m) c = (weaker x y c.0, comparable_as same want weaker l m c.1)
  comparable_as same want weaker l m c = tt

  pub option_as : (same want : A → A → Type 0) → ((x y : A) → same x y → want x y) → (x y : Option A)
      → OptionBy same x y → OptionBy want x y
  option_as same want weaker None None c = tt
  option_as same want weaker (Some x) (Some y) c = weaker x y c
  option_as same want weaker x y c = absurd c

  pub options_equal : (x y : Option A) → OptionBy (λ v w. v ≡ w) x y → x ≡ y
  options_equal None None e = refl
  options_equal (Some x) (Some y) e = ap Some e
  options_equal x y e = absurd e

  pub equal_options : (x y : Option A) → x ≡ y → OptionBy (λ v w. v ≡ w) x y
  equal_options None None e = tt
  equal_options (Some x) (Some y) e = cc e
  equal_options x y e = absurd (cc e)

  -- Results that are the same are Options whose items are the same.
  pub answer_items : (same : Sameness A) (x y : Option A) → SameAnswer same x y
      → OptionBy (SameItem same) x y
  answer_items Sameness.equal x y e = equal_options x y e
  answer_items (Sameness.by same) x y e = e

  -- Two ends of a stream are the same.
  pub ends_same : (same : Sameness A) → SameAnswer same None None
  ends_same Sameness.equal = refl
  ends_same (Sameness.by same) = tt

  -- An item is never the same as an end of the stream.
  pub both_items : (same : Sameness A) (x y : Option A) → SameAnswer same x y → OptionBy (λ _ _. ⊤) x y
  both_items same x y e = option_as _ _ _ x y (answer_items same x y e)

  pub item_same : (same : Sameness A) (x y : A) → SameAnswer same (Some x) (Some y) → SameItem same x y
  item_same Sameness.equal x y e = cc e
  item_same (Sameness.by same) x y e = e

  pub same_answer : (same : Sameness A) (x y : A) → SameItem same x y → SameAnswer same (Some x) (Some y)
  same_answer Sameness.equal x y e = ap Some e
  same_answer (Sameness.by same) x y e = e

  pub optional_same : (same : Sameness A) (x y : Option A) → SameAnswer same x y
      → SameItem (Optional same) x y
  optional_same Sameness.equal x y e = e
  optional_same (Sameness.by same) x y e = e

  pub held_same : (same : Sameness A) (x y : Option A) → SameHeld same x y → SameAnswer same x y
  held_same Sameness.equal x y e = sym e
  held_same (Sameness.by same) x y e = e

  pub same_held : (same : Sameness A) (x y : Option A) → SameAnswer same x y → SameHeld same x y
  same_held Sameness.equal x y e = sym e
  same_held (Sameness.by same) x y e = e

pub pairs_same : {A B : Type 0} (same : Sameness A) (other : Sameness B) (p q : A × B) → SameItem same p.0 q.0
    → SameItem other p.1 q.1 → SameItem (Pairwise same other) p q
pairs_same Sameness.equal Sameness.equal p q e d = λ i. (e i, d i)
pairs_same same other p q e d = (e, d)

-- Things made of items that are the same are the same, if only one thing is made of each item.
pub made_same : {A B : Type 0} (same : Sameness A) (makes : A → B → Type 0)
    → ((x : A) (y z : B) → makes x y → makes x z → y ≡ z)
    → (x w : A) (y z : B) → SameItem same x w → makes x y → makes w z → SameItem (MadeOf same makes) y z
made_same Sameness.equal makes one x w y z e c d = one x y z c (subst (λ v. makes v z) (sym e) d)
made_same (Sameness.by same) makes one x w y z e c d = (x, w, e, c, d)

module _ {A : Type 0} where
  -- If items that are the same in one way are so for one of two sources, results that are the same in that way are so
  -- for either source.
  either_by : (same other one : Sameness A)
      → ((v w : A) → SameItem one v w → SameItem same v w ⊎ SameItem other v w) → (x y : Option A) → SameAnswer one x y
      → SameAnswer (Either same other) x y
  either_by Sameness.equal Sameness.equal one part x y e =
      options_equal x y
      (option_as _ _ (λ v w d. elim (part v w d) [ inl p ↦ p | inr p ↦ p ]) x y
      (answer_items one x y e))
  either_by same other one part x y e =
      option_as _ _ part x y (answer_items one x y e)

  pub either_first : (same other : Sameness A) (l m : List (Option A)) → ComparableBy (SameAnswer same) l m
      → ComparableBy (SameAnswer (Either same other)) l m
  either_first same other =
      comparable_as _ _ (either_by same other same (λ v w. inl))

  pub either_second : (same other : Sameness A) (l m : List (Option A)) → ComparableBy (SameAnswer other) l m
      → ComparableBy (SameAnswer (Either same other)) l m
  either_second same other =
      comparable_as _ _ (either_by same other other (λ v w. inr))

  pub option_by : (same : A → A → Type 0) (x y : Option A) (u v : A) → OptionBy same x y → x ≡ Some u
      → y ≡ Some v → same u v
  option_by same x y u v h e d = rw (e, d) at h
