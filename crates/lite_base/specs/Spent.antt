-- A future that is held until its value, and the results after that.
use Rattle.std.specs.Prelude.{List, ◌≡◌, ◌++◌, map, Option, Some, None, Result, Ok}
use Rattle.lite_base.specs.Uses.{Poll, Ready, Pending}
use Rattle.lite_base.specs.Answers.{Gives, Waiting, Answer}
use Rattle.lite_base.specs.Runs.{Runs}

-- A future that was polled until its value.

-- The future `f` returned the results `ins`, of which the last is `value`. This is what `block_on` says of the value
-- that it returns.
pub record Finishes {F A : Type 0} (run : Runs (Poll A) F) (f : F) (ins : List (Poll A)) (value : A) : Type 0 where
  pub gives : Gives ins value
  pub last : F
  pub came : run f ins last

-- For each result of the future, `shown` says which result it becomes. `Later` says which results may follow the value.
module _ {F A B : Type 0} (run : Runs (Poll A) F) (shown : Poll A → Poll B) (Later : List (Poll B) → Type 0) where
  -- The future `f` returned its results up to its value, and then later results followed.
  pub record Spent (f : F) (out : List (Poll B)) : Type 0 where
    pub ins : List (Poll A)
    pub value : A
    pub finishes : Finishes run f ins value
    pub after : List (Poll B)
    pub later : Later after
    pub joined : out ≡ map shown ins ++ after

  -- The results, by whether the future is still held before and after them. While it is, they are its `Pending`s. Once
  -- it is not, they are later results.
  abbrev pub Spends : Runs (Poll B) (Option F)
  Spends None out y = Later out × (y ≡ None)
  Spends (Some f) out (Some g) = (ins : List (Poll A)) × Waiting ins × run f ins g × (out ≡ map shown ins)
  Spends (Some f) out None = Spent f out

-- What holds whenever a future returns `Ok`.

-- Whenever a run of the future `x` ends with the value `Ok(a)`, `P` holds of the future that it leaves and of `a`.
abbrev pub AtEachOk : {F A E : Type 0} → Runs (Poll (Result A E)) F → F → (F → A → Type 0) → Type 0
AtEachOk {F} {A} {E} run x P = (out : List (Poll (Result A E))) (y : F) (a : A) → run x out y → Gives out (Ok a) → P y a

-- What a stream yields that polls a future for its items.

-- A `Pending` stays, and the future's value `x` becomes `shown x`: an item, or the end of the stream.
abbrev pub handed : {A B : Type 0} → (A → Option B) → Poll A → Answer B
handed shown Pending = Pending
handed shown (Ready x) = Ready (shown x)
