-- Futures and streams over a reader: they consume its bytes one after the other until they have a result.
use Rattle.std.specs.Prelude.{◌≡◌, ℕ, List, [], ◌∷◌}
use Rattle.lite_read.specs.Uses.{Poll, Ready, Pending, ReadMark, Runs, Waiting, Segments}
use Rattle.lite_base.specs.Answers.{UpToValue}
use Rattle.lite_base.specs.Runs.{Question}
use Rattle.lite_base.specs.Segments.{Segment, SegmentsToValue}

-- A fold over the marks of a reader, with states of the type `M`: which bytes it consumes, when it may read on, and
-- what value it produces.
pub record ReadFold (M R : Type 0) : Type 1 where
  -- Consuming this byte leads from one state to another.
  pub takes : M → ℕ → M → Type 0
  -- The fold may read on in this state.
  pub asks : M → Type 0
  -- These last marks, of which the fold consumes no byte, produce this value and leave this state.
  pub gives : Question M (List ReadMark) R

module _ {M R : Type 0} (fold : ReadFold M R) where
  -- The last marks of one poll: a `Pending` if the fold may read on, or the marks that produce the value.
  abbrev pub LastMarks : Question M (List ReadMark) (Poll R)
  LastMarks p marks Pending q = (marks ≡ ReadMark.pending ∷ []) × fold.asks p × (q ≡ p)
  LastMarks p marks (Ready r) q = fold.gives p marks r q

  -- The marks of one poll: some bytes, which the fold consumes, and then the last marks (`LastMarks`).
  abbrev pub AnswerMarks : Question M (List ReadMark) (Poll R)
  AnswerMarks = Segment ReadMark.byte fold.takes LastMarks

  -- The marks of a future's polls, cut into one segment for each poll, up to a value.
  abbrev pub ReadFolds : M → List ReadMark → List (Poll R) → M → Type 0
  ReadFolds = SegmentsToValue AnswerMarks

  -- The marks of a stream's polls, cut into one segment for each poll. Each segment starts from the state that the one
  -- before it left.
  abbrev pub PieceSegments : M → List ReadMark → List (Poll R) → M → Type 0
  PieceSegments = Segments AnswerMarks

  -- The reader produced some marks from `s` to `t`, and these are cut into one segment for each poll result.
  pub record Segmented {S : Type 0} (reads : Runs ReadMark S) (s : S) (p : M) (out : List (Poll R)) (t : S)
      (q : M) : Type 0 where
    pub marks : List ReadMark
    pub came : reads s marks t
    pub cut : PieceSegments p marks out q

module _ {X S M R : Type 0} (reader : X → S) (held : X → M) (fold : X → ReadFold M R) (Keeps : X → X → Type 0)
    (reads : Runs ReadMark S) where
  -- The run of a future over a reader. The reader produced some marks, and the fold made the poll results of them, up
  -- to a value. Without a poll the future is unchanged. `Keeps` relates the future before and after.
  pub record Gathers (x : X) (out : List (Poll R)) (y : X) : Type 0 where
    pub folded : Segmented (fold x) reads (reader x) (held x) out (reader y) (held y)
    pub ends : UpToValue out
    pub stays : Keeps x y
    pub idle : out ≡ [] → y ≡ x

module _ {X S M R : Type 0} (reader : X → S) (held : X → M) (fold : X → X → X → ReadFold M R)
    (Keeps Grows : X → X → Type 0) (reads : Runs ReadMark S) where
  -- Like `Gathers`, but the fold depends on both values of the run, because they decide whether an allocation may fail.
  -- While the future is pending, `Grows` holds: its room for bytes does not shrink.
  pub record GathersByRoom (x : X) (out : List (Poll R)) (y : X) : Type 0 where
    pub gathered : Gathers reader held (fold x y) Keeps reads x out y
    pub grows : Waiting out → Grows x y
