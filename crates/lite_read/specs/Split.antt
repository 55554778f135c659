-- The `split` stream: the bytes between delimiters.
use Rattle.std.specs.Prelude.{◌≡◌, ◌<◌, ◌+◌, ℕ, List, Option, Result, Ok, Err, length, vec_capacity}
use Rattle.lite_read.specs.Uses.{Global, before_first, Error, Vec, is_byte, Answer, Runs, ReadMark}
use Rattle.lite_read.specs.ReadFold.{ReadFold}
use Rattle.lite_read.specs.Pieces.{Itemised, pieces}
use Rattle.lite_read.specs.Segments.{Flows, StreamOver}
use Rattle.lite_read.specs.declared.split.Split.{Split}

-- The item for a piece is a vector of exactly these bytes.
abbrev pub IsVec : List ℕ → Result (Vec ℕ Global) Error → Type 0
IsVec xs (Ok v) = v.items ≡ xs
IsVec xs (Err e) = ⊥

-- The fold of `split`: bytes up to the delimiter or end of file become a vector, without the delimiter. An allocation
-- may fail if `may_refuse` is true.
abbrev pub splitting : Type 0 → ℕ → ReadFold (List ℕ) (Option (Result (Vec ℕ Global) Error))
splitting may_refuse byte = pieces byte (λ held. may_refuse) (Itemised IsVec IsVec)

-- A view of `split` as a stream over a reader: it holds the bytes of the piece read so far, and its delimiter never
-- changes.
abbrev pub split_over : {R : Type 0} → StreamOver (Split R) R (List ℕ) ℕ
split_over =
    record {
      reader = λ x. x.reader;
      held = λ x. x.held.items;
      room = λ x. vec_capacity x.held;
      kept = λ x. x.byte;
    }

-- The buffer of `x` is too small for the bytes that `y` holds and those that `y`'s reader has buffered before a
-- delimiter.
abbrev pub PieceLacksRoom : {R : Type 0} → (R → List ℕ) → Split R → Split R → Type 0
PieceLacksRoom buffer_of x y =
    vec_capacity x.held < length y.held.items + length (before_first (is_byte x.byte) (buffer_of y.reader))

module _ {R : Type 0} (reads : Runs ReadMark R) (may_refuse : Type 0) where
  -- The run of `split`: the reader's marks are cut into pieces, errors and ends, one for each poll result. An
  -- allocation may fail if `may_refuse` is true.
  abbrev pub Splits : Runs (Answer (Result (Vec ℕ Global) Error)) (Split R)
  Splits = Flows split_over (splitting may_refuse) reads
