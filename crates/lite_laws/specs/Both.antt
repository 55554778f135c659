-- Two runs of streams that are alike, and two of futures that are.
use Rattle.std.specs.Prelude.{◌≡◌, ◌⊎◌, ◌<◌, ℕ, List, [], length}
use Rattle.lite_laws.specs.Uses.{Poll, Answer}
use Rattle.lite_base.specs.Alike.{SameAnswer, SameItem, Sameness}
use Rattle.lite_base.specs.Answers.{ComparableBy, strip}
use Rattle.lite_base.specs.Spent.{Finishes}
use Rattle.lite_base.specs.Runs.{Runs}

-- Two streams return the results `l` and `m`, from `x` and from `y`. If no allocation failed in either run, or no poll
-- allocates, one list is a prefix of the other. `Pending`s are left out, and results that are the same by `same` count
-- as equal.
pub record Agreed {S A : Type 0} (same : Sameness A) (run ample : Runs (Answer A) S) (needs_none : Type 0) (x : S)
    (l : List (Answer A)) (x' y : S) (m : List (Answer A)) (y' : S) : Type 0 where
  pub first : run x l x'
  pub second : run y m y'
  pub found : ample x l x' → ample y m y' → ComparableBy (SameAnswer same) (strip l) (strip m)
  pub always : needs_none → ComparableBy (SameAnswer same) (strip l) (strip m)

-- Two futures, polled to the end from `x` and from `y`, return the values `v` and `w`. If no allocation failed in
-- either run, or no poll allocates, the values are the same.
pub record OneValue {F A : Type 0} (same : Sameness A) (run ample : Runs (Poll A) F) (needs_none : Type 0) (x : F)
    (v : A) (y : F) (w : A) : Type 0 where
  pub ins : List (Poll A)
  pub others : List (Poll A)
  pub first : Finishes run x ins v
  pub second : Finishes run y others w
  pub found : Finishes ample x ins v → Finishes ample y others w → SameItem same v w
  pub always : needs_none → SameItem same v w

-- Two runs that an allocation failure cut short. The first list has fewer results than polls were to be made and the
-- second is empty, or the first is complete and the second has fewer.
abbrev pub Fewer : {A : Type 0} → List A → List A → ℕ → ℕ → Type 0
Fewer l m polls more = ((length l < polls) × (m ≡ [])) ⊎ ((length l ≡ polls) × (length m < more))
