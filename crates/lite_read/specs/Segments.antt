-- Streams over a reader: the reader's marks are cut into segments, one for each poll result.
use Rattle.std.specs.Prelude.{◌≡◌, ℕ, List, []}
use Rattle.lite_read.specs.Uses.{Poll, ReadMark, Runs}
use Rattle.lite_read.specs.ReadFold.{ReadFold}
pub use Rattle.lite_read.specs.ReadFold.{PieceSegments, Segmented}

-- How to view a stream of the type `X` over a reader: its reader, what it holds between polls, its buffer's capacity,
-- and its settings, which never change.
pub record StreamOver (X S M K : Type 0) : Type 0 where
  pub reader : X → S
  pub held : X → M
  pub room : X → ℕ
  pub kept : X → K

module _ {X S M K R : Type 0} (over : StreamOver X S M K) (fold : K → ReadFold M R) (reads : Runs ReadMark S) where
  -- The run of a stream over a reader. The reader produced some marks, and these are cut into segments, each of which
  -- makes one poll result. Without a poll the stream is unchanged.
  pub record Flows (x : X) (out : List (Poll R)) (y : X) : Type 0 where
    pub segmented : Segmented (fold (over.kept x)) reads (over.reader x) (over.held x) out (over.reader y) (over.held y)
    pub stays : over.kept y ≡ over.kept x
    pub idle : out ≡ [] → y ≡ x
