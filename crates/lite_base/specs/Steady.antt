-- Streams and futures whose results do not depend on when they were pending, if no allocation failed. Their ample runs
-- are those in which no allocation failed. The ample runs of an adapter are its runs over ample runs of its sources.
-- Those of `repeat`, `cloned`, `lines`, the futures that collect and others that allocate leave out their own
-- allocation failures too.
use Rattle.std.specs.Prelude.{◌≡◌, List}
use Rattle.lite_base.specs.Uses.{Poll}
use Rattle.lite_base.specs.Alike.{AlikeBy, SameAnswer, SameItem, Sameness}
use Rattle.lite_base.specs.Answers.{Answer}
use Rattle.lite_base.specs.FutureLaws.{FutureRunLaws}
use Rattle.lite_base.specs.StreamLaws.{RunLaws}
use Rattle.lite_base.specs.Runs.{Runs}

-- Every run is ample, as it is if no call asks for memory. Readers say so too.
abbrev pub TakesNone : {S A : Type 0} → Runs A S → Runs A S → Type 0
TakesNone {S} {A} run ample = (x y : S) (l : List A) → run x l y → ample x l y

module _ {S A : Type 0} where
  -- Two values that are alike have ample runs with results that are the same, if the `Pending`s are left out.
  abbrev pub SteadinessBy : (A → A → Type 0) → Runs (Poll A) S → (S → S → Type 0) → Type 0
  SteadinessBy same ample alike = (x y : S) → alike x y → AlikeBy same ample x y

  -- Two values that are alike have ample runs with equal results, if the `Pending`s are left out. A value need not be
  -- alike to itself. If it is, its results do not depend on when it was pending.
  abbrev pub Steadiness : Runs (Poll A) S → (S → S → Type 0) → Type 0
  Steadiness = SteadinessBy (λ x y. x ≡ y)

-- What a `SteadyStream` promises: its ample runs follow one another, streams that are alike yield items that are the
-- same in them, and every run is ample if no poll needs memory. Items that are never equal, as those with errors, need
-- a sameness of their own: errors are the same if they are of one kind (`SameByKind`), vectors and texts if their bytes
-- are (`SameVec`, `SameText`). Two adapters are alike if their sources are alike, their closures agree, and what they
-- count is equal. `iter`, `repeat_with` and both `poll_fn` are their own sources, and are alike if their results are
-- the same.
pub record SteadyLawsBy {S A : Type 0} (same : Sameness A) (run ample : Runs (Answer A) S) (needs_none : Type 0)
    (alike : S → S → Type 0) : Type 0 where
  pub laws : RunLaws ample
  pub steady : SteadinessBy (SameAnswer same) ample alike
  pub found : needs_none → TakesNone run ample

-- As `SteadyLawsBy`, with items compared by equality.
abbrev pub SteadyLaws : {S A : Type 0} → Runs (Answer A) S → Runs (Answer A) S → Type 0 → (S → S → Type 0) → Type 0
SteadyLaws = SteadyLawsBy Sameness.equal

-- What a `SteadyFuture` promises: its ample runs meet the laws of a future, futures that are alike return values that
-- are the same in them, and every run is ample if no poll needs memory.
pub record FutureSteadyLawsBy {F A : Type 0} (same : Sameness A) (run ample : Runs (Poll A) F) (needs_none : Type 0)
    (alike : F → F → Type 0) : Type 0 where
  pub laws : FutureRunLaws ample
  pub steady : SteadinessBy (SameItem same) ample alike
  pub found : needs_none → TakesNone run ample

-- As `FutureSteadyLawsBy`, with values compared by equality.
abbrev pub FutureSteadyLaws : {F A : Type 0} → Runs (Poll A) F → Runs (Poll A) F → Type 0 → (F → F → Type 0) → Type 0
FutureSteadyLaws = FutureSteadyLawsBy Sameness.equal
