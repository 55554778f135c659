-- Runs that differ only in when they returned `Pending`, and what it means that two items, values or errors are the
-- same.
use Rattle.std.specs.Prelude.{◌≡◌, ◌⊎◌, ⊤, List, Option, Some, None, Result, Ok, Err}
use Rattle.lite_base.specs.Uses.{Poll}
use Rattle.std.specs.List.{AllZip}
use Rattle.lite_base.specs.Answers.{ComparableBy, strip}
use Rattle.lite_base.specs.Runs.{Runs}

-- Both Options are `None`, or both are `Some` and `same` holds of their values.
abbrev pub OptionBy : {A : Type 0} → (A → A → Type 0) → Option A → Option A → Type 0
OptionBy same None None = ⊤
OptionBy same None (Some y) = ⊥
OptionBy same (Some x) None = ⊥
OptionBy same (Some x) (Some y) = same x y

-- Any run from `x` and any run from `y` return results that are the same by `same`, one by one. `Pending`s are left
-- out, and the lists are compared as far as both go.
abbrev pub AlikeBy : {S A : Type 0} → (A → A → Type 0) → Runs (Poll A) S → S → S → Type 0
AlikeBy {S} {A} same run x y =
    (l m : List (Poll A)) (x' y' : S) → run x l x' → run y m y' → ComparableBy same (strip l) (strip m)

-- When two items are the same: if they are equal (`equal`), or if a given relation holds of them (`by`).
pub data Sameness (A : Type 0) : Type 1 where
  equal : Sameness A
  by : (A → A → Type 0) → Sameness A

module _ {A : Type 0} where
  -- Two results of a stream's polls are the same: both are the end of the stream, or both are items that are the same.
  abbrev pub SameAnswer : Sameness A → Option A → Option A → Type 0
  SameAnswer Sameness.equal x y = x ≡ y
  SameAnswer (Sameness.by same) x y = OptionBy same x y

  -- Two items are the same: they are equal, or the given relation holds of them.
  abbrev pub SameItem : Sameness A → A → A → Type 0
  SameItem Sameness.equal x y = x ≡ y
  SameItem (Sameness.by same) x y = same x y

  -- When items that come from either of two sources are the same: if they are the same for one of the two sources.
  abbrev pub Either : Sameness A → Sameness A → Sameness A
  Either Sameness.equal Sameness.equal = Sameness.equal
  Either same other = Sameness.by (λ x y. SameItem same x y ⊎ SameItem other x y)

-- When pairs are the same: if their first parts are the same and their second parts are the same.
abbrev pub Pairwise : {A B : Type 0} → Sameness A → Sameness B → Sameness (A × B)
Pairwise Sameness.equal Sameness.equal = Sameness.equal
Pairwise same other = Sameness.by (λ p q. SameItem same p.0 q.0 × SameItem other p.1 q.1)

-- When things made of items are the same. They are compared by equality if the items are; otherwise they have to be
-- made of items that are the same. `makes x y` says that `y` is made of `x`.
abbrev pub MadeOf : {A B : Type 0} → Sameness A → (A → B → Type 0) → Sameness B
MadeOf Sameness.equal makes = Sameness.equal
MadeOf {A} (Sameness.by same) makes = Sameness.by (λ y z. (x : A) × (w : A) × same x w × makes x y × makes w z)

module _ {A : Type 0} where
  -- When Options are the same: both are `None`, or both are `Some` of values that are the same. The values of `next`,
  -- `nth`, `last` and `find` are compared in this way.
  abbrev pub Optional : Sameness A → Sameness (Option A)
  Optional Sameness.equal = Sameness.equal
  Optional (Sameness.by same) = Sameness.by (OptionBy same)

  -- Two values hold items that are the same, or neither holds anything.
  abbrev pub SameHeld : Sameness A → Option A → Option A → Type 0
  SameHeld Sameness.equal x y = y ≡ x
  SameHeld (Sameness.by same) x y = OptionBy same x y

  -- Two lists have one length and are the same item by item.
  abbrev pub SameList : Sameness A → List A → List A → Type 0
  SameList Sameness.equal l m = l ≡ m
  SameList (Sameness.by same) l m = AllZip same l m

-- When values in `Ok` are the same, given when Results are: if the `Ok`s of the two are the same.
abbrev pub SameOk : {A E : Type 0} → Sameness (Result A E) → Sameness A
SameOk Sameness.equal = Sameness.equal
SameOk (Sameness.by same) = Sameness.by (λ x y. same (Ok x) (Ok y))

-- When errors are the same, given when Results are: if the `Err`s of the two are the same.
abbrev pub SameErr : {A E : Type 0} → Sameness (Result A E) → Sameness E
SameErr Sameness.equal = Sameness.equal
SameErr (Sameness.by same) = Sameness.by (λ d e. same (Err d) (Err e))

-- Two values are alike: any runs of the two return equal results, as far as both go, if the `Pending`s are left out.
-- Types say this of their ample runs, in which no allocation failed.
abbrev pub Alike : {S A : Type 0} → Runs (Poll A) S → S → S → Type 0
Alike = AlikeBy (λ x y. x ≡ y)
