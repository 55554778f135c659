-- Two futures that are polled in each row, each until its value.
use Rattle.std.specs.Prelude.{◌≡◌, List, [], ◌∷◌}
use Rattle.lite_future.specs.Uses.{Poll, Ready, Pending, Runs}
use Rattle.lite_future.specs.Side.{Stands}
use Rattle.lite_future.specs.declared.side.Side.{Side}
use Rattle.lite_future.specs.declared.side.Side.TheVariants.{Taken, Asked, Gave}

-- The pair of the two values, or `Pending` if one of the results is `Pending`.
abbrev pub both : {R T C : Type 0} → (R → T → C) → Poll R → Poll T → Poll C
both pair (Ready v) (Ready w) = Ready (pair v w)
both pair Pending b = Pending
both pair (Ready v) Pending = Pending

-- The three lists have one length, and each result in `out` is the pair of the two results in its row, or `Pending`.
abbrev pub PairRows : {R T C : Type 0} → (R → T → C) → List (Poll R) → List (Poll T) → List (Poll C) → Type 0
PairRows pair [] [] out = out ≡ []
PairRows pair [] (b ∷ j) out = ⊥
PairRows pair (a ∷ i) [] out = ⊥
PairRows pair (a ∷ i) (b ∷ j) [] = ⊥
PairRows pair (a ∷ i) (b ∷ j) (c ∷ out) = (c ≡ both pair a b) × PairRows pair i j out

-- If a pair is among the results, it is the last one, and the value is taken with it. Otherwise nothing changes.
abbrev pub TakenWithPair : {F A C : Type 0} → List (Poll C) → Side F A → Side F A → Type 0
TakenWithPair [] now left = left ≡ now
TakenWithPair (Pending ∷ out) now left = TakenWithPair out now left
TakenWithPair (Ready c ∷ out) now left = (out ≡ []) × (left ≡ Taken)

-- The results of the two futures are combined row by row by `pair`.
module _ {F G A B R T C : Type 0} (answer_first : A → R) (answer_second : B → T) (pair : R → T → C)
    (run_first : Runs (Poll R) F) (run_second : Runs (Poll T) G) where
  -- In each row a future has its result, or again its value if that has come before. The row's result is the pair if
  -- both have a value, and `Pending` otherwise. The pair is the last result, and both values are taken with it.
  pub record Together (x : Side F A) (u : Side G B) (out : List (Poll C)) (y : Side F A) (v : Side G B) : Type 0 where
    pub i : List (Poll R)
    pub j : List (Poll T)
    pub p : Side F A
    pub q : Side G B
    pub first : Stands answer_first run_first x i p
    pub second : Stands answer_second run_second u j q
    pub rows : PairRows pair i j out
    pub taken : TakenWithPair out p y × TakenWithPair out q v

-- The two values of a pair are taken together.

-- If both values are held, the result is the pair, and both are taken. Otherwise the result is `Pending`, and nothing
-- changes.
abbrev pub TakesBoth : {F G A B : Type 0} → Side F A → Side G B → Poll (A × B) → Side F A → Side G B → Type 0
TakesBoth (Gave v) (Gave w) r y t = (r ≡ Ready (v, w)) × (y ≡ Taken) × (t ≡ Taken)
TakesBoth (Gave v) (Asked g) r y t = (r ≡ Pending) × (y ≡ Gave v) × (t ≡ Asked g)
TakesBoth (Gave v) Taken r y t = (r ≡ Pending) × (y ≡ Gave v) × (t ≡ Taken)
TakesBoth (Asked f) u r y t = (r ≡ Pending) × (y ≡ Asked f) × (t ≡ u)
TakesBoth Taken u r y t = (r ≡ Pending) × (y ≡ Taken) × (t ≡ u)
