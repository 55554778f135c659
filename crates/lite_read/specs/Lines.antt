-- The `lines` stream: the text between newlines, 0x0A.
use Rattle.std.specs.Prelude.{◌<◌, ◌+◌, ℕ, List, Option, Result, length, vec_capacity}
use Rattle.lite_read.specs.Uses.{Global, before_first, Error, String, Answer, Runs, ReadMark, without_return}
use Rattle.lite_read.specs.ReadFold.{ReadFold}
use Rattle.lite_read.specs.Pieces.{Itemised, pieces}
use Rattle.lite_read.specs.Segments.{Flows, StreamOver}
use Rattle.lite_read.specs.Scan.{is_newline}
use Rattle.lite_read.specs.Texts.{IsText}
use Rattle.lite_read.specs.declared.lines.Lines.{Lines}

-- The fold of `lines`: bytes up to a newline become a line without one 0x0D at its end, and bytes up to end of file a
-- line as they are. An allocation may fail if `may_refuse` is true.
abbrev pub line_fold : Type 0 → Unit {0} → ReadFold (List ℕ) (Option (Result (String Global) Error))
line_fold may_refuse u = pieces 10 (λ held. may_refuse) (Itemised (λ xs. IsText (without_return xs)) IsText)

-- A view of `lines` as a stream over a reader: it holds the bytes of the line read so far, and no settings.
abbrev pub lines_over : {R : Type 0} → StreamOver (Lines R) R (List ℕ) (Unit {0})
lines_over =
    record {
      reader = λ x. x.reader;
      held = λ x. x.held.bytes.items;
      room = λ x. vec_capacity x.held.bytes;
      kept = λ x. tt;
    }

-- The buffer of `x` is too small for the bytes that `y` holds and those that `y`'s reader has buffered before a
-- newline.
abbrev pub LineLacksRoom : {R : Type 0} → (R → List ℕ) → Lines R → Lines R → Type 0
LineLacksRoom buffer_of x y =
    vec_capacity x.held.bytes < length y.held.bytes.items + length (before_first is_newline (buffer_of y.reader))

module _ {R : Type 0} (reads : Runs ReadMark R) (may_refuse : Type 0) where
  -- The run of `lines`: the reader's marks are cut into lines, errors and ends, one for each poll result. An allocation
  -- may fail if `may_refuse` is true.
  abbrev pub GivesLines : Runs (Answer (Result (String Global) Error)) (Lines R)
  GivesLines = Flows lines_over (line_fold may_refuse) reads
