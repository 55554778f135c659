-- What closures do with the items of a stream. Adapters are defined over such calls: `call p x o q` says that a call in
-- the state `p` with the item `x` returns `o` and leaves the state `q`.
use Rattle.std.specs.Prelude.{◌≡◌, ⊤, List, [], ◌∷◌, Option, Some, None, Bool, true, false}
use Rattle.lite_base.specs.Uses.{Mut, Called, FoldsTo}
use Rattle.std.specs.Fn.{CalledWithState}
use denote.Ref.{MutBor}
use Rattle.lite_base.specs.Alike.{OptionBy, Sameness}
use Rattle.lite_base.specs.Answers.{ComparableBy}
use Rattle.lite_base.specs.Runs.{Question}

-- A call of the function `g` with the one argument `x`: it goes from the state `p` to `q` and returns `y`.
abbrev pub Calls : {F A B : Type 0} → Mut F (A × Unit {0}) B → F → A → B → F → Type 0
Calls g p x y q = Called g p (x, tt) y q

-- Every value that the function makes, from the state `f` on, has the fact `Fact`, also after any other calls.
pub record MakesAlways {F X V : Type 0} (g : Mut F X V) (Fact : V → Type 0) (f : F) : Type 0 where
  pub at : (xs : List X) (p q : F) (x : X) (v : V) → FoldsTo (λ r y s. (w : V) × Called g r y w s) f xs p
      → Called g p x v q → Fact v

-- A call with a mutable reference to a state and the argument `x`, as `scan` makes it. The function and the state that
-- it leaves are those of the next call.
abbrev pub CallsWith : {F V A B : Type 0} → Mut F (MutBor V × (A × Unit {0})) (B × (MutBor V × Unit {0})) → F × V → A
    → B → F × V → Type 0
CallsWith g p x o q = CalledWithState g p.0 p.1 x o q.0 q.1

-- A call whose return value always is an item: seen as one that returns an Option, it returns `Some` and never `None`.
abbrev pub Always : {F A B : Type 0} → Question F A B → F → A → Option B → F → Type 0
Always call p x None q = ⊥
Always call p x (Some y) q = call p x y q

-- A test, seen as a call that returns an Option: `Some` of the item itself if the test returns true, and `None` if it
-- returns false.
abbrev pub Accepts : {F A : Type 0} → Question F A Bool → F → A → Option A → F → Type 0
Accepts test p x None q = test p x false q
Accepts test p x (Some y) q = (y ≡ x) × test p x true q

module _ {F A B : Type 0} where
  -- Calls with the listed arguments, one after the other from the state `f`, return the listed values and leave the
  -- state `g`.
  abbrev pub Answered : Question F A B → F → List A → List B → F → Type 0
  Answered call f [] [] g = g ≡ f
  Answered call f [] (y ∷ ys) g = ⊥
  Answered call f (x ∷ xs) [] g = ⊥
  Answered call f (x ∷ xs) (y ∷ ys) g = (h : F) × call f x y h × Answered call h xs ys g

  -- Calls from the states `f` and `k` agree: if the arguments are alike by `like`, the return values are the same by
  -- `same`. Both lists are compared element by element, as far as both go.
  pub record AgreeFrom (like : A → A → Type 0) (same : B → B → Type 0) (call : Question F A B)
      (f k : F) : Type 0 where
    pub at : (xs ws : List A) (ys zs : List B) (g l : F) → ComparableBy like xs ws → Answered call f xs ys g
        → Answered call k ws zs l → ComparableBy same ys zs

  -- Closures in the states `f` and `k` return values that are the same by the given relation if their lists of
  -- arguments are equal.
  abbrev pub AgreeBy : (B → B → Type 0) → Question F A B → F → F → Type 0
  AgreeBy = AgreeFrom (λ x w. x ≡ w)

  -- Closures agree: in the states `f` and `k` they return equal values if their lists of arguments are equal, from now
  -- on.
  abbrev pub Agree : Question F A B → F → F → Type 0
  Agree = AgreeBy (λ y z. y ≡ z)

  -- Two closures are kin: they are equal, or they are left by calls of kin closures with items that are alike.
  pub data Kin (like : A → A → Type 0) (call : Question F A B) : F → F → Type 0 where
    one : (f : F) → Kin like call f f
    called : (f k g l : F) (x w : A) (y z : B) → Kin like call f k → like x w → call f x y g → call k w z l
        → Kin like call g l

  -- `y` and `z` are what calls of kin closures return for items that are alike.
  abbrev pub KinAnswers : (A → A → Type 0) → Question F A B → B → B → Type 0
  KinAnswers like call y z =
      (f : F) × (k : F) × (g : F) × (l : F) × (x : A) × (w : A) × Kin like call f k × like x w × call f x y g
      × call k w z l

  -- When the items of an adapter that yields its closure's return values, as `map` does, are the same. They are
  -- compared by equality if the source's items are; otherwise kin closures have to return them for items that are the
  -- same.
  abbrev pub Answering : Sameness A → Question F A B → Sameness B
  Answering Sameness.equal call = Sameness.equal
  Answering (Sameness.by same) call = Sameness.by (KinAnswers same call)

-- When the items of an adapter that yields what its closure returns in `Some` are the same, as of `map_while`,
-- `filter_map` and `scan`. They are compared by equality if the source's items are; otherwise kin closures have to
-- return them for items that are the same.
abbrev pub Keeping : {F A B : Type 0} → Sameness A → Question F A (Option B) → Sameness B
Keeping Sameness.equal call = Sameness.equal
Keeping (Sameness.by same) call = Sameness.by (λ y z. KinAnswers same call (Some y) (Some z))

-- What an adapter requires of two closures so that its runs are alike: they agree if items are compared by equality,
-- and they are kin otherwise.
abbrev pub AgreeOver : {F A B : Type 0} → Sameness A → Question F A B → F → F → Type 0
AgreeOver Sameness.equal call f k = Agree call f k
AgreeOver (Sameness.by same) call f k = Kin same call f k

-- As `AgreeOver`, and if items are compared by a relation, both closures return `Some` or both return `None` for items
-- that are the same.
abbrev pub AgreeKeeping : {F A B : Type 0} → Sameness A → Question F A (Option B) → F → F → Type 0
AgreeKeeping Sameness.equal call f k = Agree call f k
AgreeKeeping (Sameness.by same) call f k = Kin same call f k × AgreeFrom same (OptionBy (λ _ _. ⊤)) call f k
