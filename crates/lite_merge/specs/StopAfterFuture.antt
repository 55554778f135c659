-- `stop_after_future`: a stream's results until a future returns its value or the stream ends. Then every poll returns
-- the end of the stream. Once the future is taken out, the results are the stream's.
use Rattle.std.specs.Prelude.{◌≡◌, ◌+◌, List, [], ◌∷◌, ◌++◌, length, Some, None}
use Rattle.lite_merge.specs.Uses.{Poll, Answer, Endless, end, Runs, AllEnds, Through, Relates}
use Rattle.lite_base.specs.Answers.{Waiting}
use Rattle.lite_base.specs.Spent.{Finishes}
use Rattle.lite_merge.specs.declared.stop_after_future.StopAfterFuture.{StopAfterFuture}
use Rattle.lite_merge.specs.declared.stop_after_future.Stopping.TheVariants.{Holding, TakenOut, Stopped}
use Rattle.lite_merge.specs.declared.stop_after_future.Stopping.{Stopping}

-- The results are `front`, and then the end of the stream at every poll.
abbrev pub ThenEnds : {A : Type 0} → List (Answer A) → List (Answer A) → Type 0
ThenEnds {A} front out = (later : List (Answer A)) × AllEnds later × (out ≡ front ++ later)

module _ {F A R : Type 0} (run : Runs (Poll R) F) where
  -- The future is polled once for each of the stream's results, and returned `Pending` each time.
  pub record PendingBeside (f : F) (ins : List (Answer A)) (g : F) : Type 0 where
    pub told : List (Poll R)
    pub waiting : Waiting told
    pub came : run f told g
    pub rows : length told ≡ length ins

  -- The future returned its value in the poll after the stream's last result, and the stream was not polled then. That
  -- poll and every later one returned the end of the stream.
  pub record StoppedByValue (f : F) (ins out : List (Answer A)) (value : R) : Type 0 where
    pub told : List (Poll R)
    pub finishes : Finishes run f told value
    pub rows : length told ≡ length ins + 1
    pub endless : Endless ins
    pub goes_out : ThenEnds (ins ++ end ∷ []) out

  -- The stream ended while the future was still pending. Every later poll returned the end of the stream.
  pub record StoppedByEnd (f : F) (ins out : List (Answer A)) : Type 0 where
    pub last : F
    pub beside : PendingBeside f ins last
    pub own : List (Answer A)
    pub endless : Endless own
    pub through_end : ins ≡ own ++ end ∷ []
    pub goes_out : ThenEnds ins out

  -- What the stream returns, by what has become of the future before and after: it was taken out, it stopped the
  -- stream, or it is still held.
  abbrev pub StopsBy : Relates (Stopping F R) A A
  StopsBy TakenOut ins out y = (out ≡ ins) × (y ≡ TakenOut)
  StopsBy (Stopped r) ins out y = (ins ≡ []) × AllEnds out × (y ≡ Stopped r)
  StopsBy (Holding f) ins out (Holding g) = PendingBeside f ins g × Endless ins × (out ≡ ins)
  StopsBy (Holding f) ins out (Stopped (Some value)) = StoppedByValue f ins out value
  StopsBy (Holding f) ins out (Stopped None) = StoppedByEnd f ins out
  StopsBy (Holding f) ins out TakenOut = ⊥

-- The stream's results until the future returns its value or the stream ends, and then the end of the stream at every
-- poll. Once the future is taken out, the results are the stream's.
abbrev pub Stops : {S F A R : Type 0} → Runs (Answer A) S → Runs (Poll R) F → Runs (Answer A) (StopAfterFuture S F R)
Stops run run' x out y = Through run (StopsBy run') x.stream x.future out y.stream y.future
