-- One of the two futures of `zip` or `try_zip`. It is polled until it returns its value, and then the value is held.
use Rattle.std.specs.Prelude.{◌≡◌, ⊤, List, [], ◌++◌}
use Rattle.lite_future.specs.Uses.{AllByRecursion, Poll, Ready, SameItem, Sameness, Waiting, Finishes, Runs}
use Rattle.lite_future.specs.declared.side.Side.{Side}
use Rattle.lite_future.specs.declared.side.Side.TheVariants.{Asked, Gave, Taken}

-- The future has no value yet and may be polled, or its value is held. If the value was taken, this is false.
abbrev pub CanAsk : {F A : Type 0} → (F → Type 0) → Side F A → Type 0
CanAsk can_poll (Asked f) = can_poll f
CanAsk can_poll (Gave v) = ⊤
CanAsk can_poll Taken = ⊥

-- The future has no value yet, and `P` holds of it.
abbrev pub IsAskedAnd : {F A : Type 0} → Side F A → (F → Type 0) → Type 0
IsAskedAnd (Asked f) P = P f
IsAskedAnd (Gave v) P = ⊥
IsAskedAnd Taken P = ⊥

-- `answer v` is the future's result if its value is `v`.
module _ {F A R : Type 0} (answer : A → R) (run : Runs (Poll R) F) where
  -- The value `v` is the result in every row. A row is one poll of both futures.
  abbrev pub InEachRow : A → List (Poll R) → Type 0
  InEachRow v = AllByRecursion (λ a. a ≡ Ready (answer v))

  -- The future `f` returned results up to the value `v`, and in every later row the result is `v` again.
  pub record Came (f : F) (rows : List (Poll R)) (v : A) : Type 0 where
    pub ins : List (Poll R)
    pub finishes : Finishes run f ins (answer v)
    pub later : List (Poll R)
    pub repeats : InEachRow v later
    pub joined : rows ≡ ins ++ later

  -- The results of one future in some rows, given what is held before and after them: the future or its value. Before
  -- the value they are the future's own results, and from the value on each row has the value again.
  abbrev pub Stands : Runs (Poll R) (Side F A)
  Stands (Asked f) rows (Asked g) = Waiting rows × run f rows g
  Stands (Asked f) rows (Gave v) = Came f rows v
  Stands (Asked f) rows Taken = ⊥
  Stands (Gave v) rows after = InEachRow v rows × (after ≡ Gave v)
  Stands Taken rows after = (rows ≡ []) × (after ≡ Taken)

-- Both futures have no value yet and are alike, or both values are held and are the same.
abbrev pub SidesBy : {F A : Type 0} → Sameness A → (F → F → Type 0) → Side F A → Side F A → Type 0
SidesBy same alike (Asked f) (Asked g) = alike f g
SidesBy same alike (Gave v) (Gave w) = SameItem same v w
SidesBy same alike x y = ⊥

-- `P` holds of the future if it has no value yet.
abbrev pub IfAsked : {F A : Type 0} → Side F A → (F → Type 0) → Type 0
IfAsked (Asked f) P = P f
IfAsked (Gave v) P = ⊤
IfAsked Taken P = ⊤
