-- Laws of folds over the marks of a reader.
use Rattle.std.specs.Prelude.{ℕ, List, ◌∷◌, ◌++◌}
use Rattle.lite_read.specs.Uses.{FoldsTo, GivenRun, Poll, ReadMark, Runs, Segments, bytes}
use Rattle.lite_base.specs.Laws.Segments.{segment_before, segments_before}
use Rattle.lite_io_base.specs.Laws.Counting.{given_of}
use Rattle.lite_read.specs.PollSteps.{TakesBytes}
use Rattle.lite_read.specs.ReadFold.{AnswerMarks, ReadFold}

module _ {M R : Type 0} (fold : ReadFold M R) where
  -- Bytes consumed before the first segment can be merged into it.
  pub answers_before : (p m q : M) (xs : List ℕ) (i : List ReadMark) (a : Poll R) (l : List (Poll R))
      → FoldsTo fold.takes p xs m → Segments (AnswerMarks fold) m i (a ∷ l) q
      → Segments (AnswerMarks fold) p (bytes xs ++ i) (a ∷ l) q
  answers_before p m q xs i a l f =
      segments_before _ p m q _ i a l (λ k first. segment_before p m k xs first a f)

-- A step within a poll that takes bytes is a run of bytes.
pub takes_given : {X S M R : Type 0} {reader : X → S} {held : X → M} {fold : X → ReadFold M R} {Keeps : X → X → Type 0}
    {reads : Runs ReadMark S} (x y : X)
    → TakesBytes reader held fold Keeps reads x y → GivenRun reads (reader x) (reader y)
takes_given {reader} {reads} x y t = given_of reads _ _ t.taken t.some t.came
