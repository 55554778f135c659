-- The `read_line` future: it reads as `read_until` does up to a newline, 0x0A, and appends the bytes to a `String`.
use Rattle.std.specs.Prelude.{◌≡◌, ◌≤◌, ◌<◌, ◌+◌, ℕ, List, Result, length}
use Rattle.lite_read.specs.Uses.{is_ascii, list_all, Error, Poll, ReadMark, Runs}
use Rattle.lite_read.specs.Pieces.{through_first}
use Rattle.lite_read.specs.ReadUntil.{until_where}
use Rattle.lite_read.specs.ReadFold.{ReadFold}
use Rattle.lite_read.specs.Holding.{HasRoomFor, TextOver, room_for}
use Rattle.lite_read.specs.Texts.{ReadsText, ReadsTextByRoom}
use Rattle.lite_read.specs.declared.read_line.ReadLineFuture.{ReadLineFuture}

-- The fold of `read_line`: bytes are consumed through a newline. An allocation may fail if `may_refuse` is true of the
-- bytes read.
abbrev pub read_line_fold : (List ℕ → Type 0) → ReadFold (List ℕ) (Result ℕ Error)
read_line_fold = until_where 10

-- The memory of `x` is too small for the bytes `read` and those that `y`'s reader has buffered through a newline.
abbrev pub LineLacksMemory : {R A : Type 0} → (R → List ℕ) → ReadLineFuture R A → ReadLineFuture R A → List ℕ → Type 0
LineLacksMemory buffer_of x y read =
    room_for x.text.now x.bytes < length read + length (through_first 10 (buffer_of y.reader.now))

-- What is true before each poll of `read_line`: the bytes read so far fit into the text, and `ascii` says whether all
-- of them are ASCII.
pub record LineHolds {R A : Type 0} (x : ReadLineFuture R A) : Type 0 where
  pub fits : HasRoomFor x.text.now x.bytes
  pub known : x.ascii ≡ list_all is_ascii x.bytes.items

-- A view of `read_line` as a future that reads into a text.
abbrev pub line_over : {R A : Type 0} → TextOver (ReadLineFuture R A) R A
line_over =
    record {
      reader = λ x. x.reader;
      text = λ x. x.text;
      read = λ x. x.bytes.items;
      grows = λ x y. room_for x.text.now x.bytes ≤ room_for y.text.now y.bytes;
      holds = LineHolds;
    }

module _ {R A : Type 0} (may_refuse : List ℕ → Type 0) (reads : Runs ReadMark R) where
  -- The run of `read_line`: the reader's marks are read through a newline, and the text gains the bytes with the value.
  -- An allocation may fail if `may_refuse` is true of the bytes read.
  abbrev pub ReadsLine : Runs (Poll (Result ℕ Error)) (ReadLineFuture R A)
  ReadsLine = ReadsText line_over (read_line_fold may_refuse) reads

module _ {R A : Type 0} (buffer_of : R → List ℕ) (reads : Runs ReadMark R) where
  -- The run of `read_line`, in which an allocation fails only if the memory was too small (`LineLacksMemory`).
  abbrev pub ReadsLineByRoom : Runs (Poll (Result ℕ Error)) (ReadLineFuture R A)
  ReadsLineByRoom = ReadsTextByRoom line_over read_line_fold (LineLacksMemory buffer_of) reads
