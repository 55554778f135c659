-- The lines that were read of a reader, from the first on.
use Rattle.std.proofs.Common.{◌≡◌, List, [], Result, Global}
use Rattle.std.specs.Prelude.{⊤}
use Rattle.std.specs.declared.io.Error.{Error}
use Rattle.std.specs.declared.string.String.{String}
use Rattle.lite_base.specs.Answers.{Answer}
use Rattle.lite_base.specs.Runs.{Runs}
use Rattle.lite_io_base.specs.Marks.{ReadMark}
use Rattle.lite_read.specs.Lines.{GivesLines}
use Rattle.lite_read.specs.declared.lines.Lines.{Lines}
use Rattle.nests_agree.specs.Lines.{LinesRead}

-- a run of the lines that were made of the reader
abbrev pub lines_read : {R : Type 0} {reads : Runs ReadMark R} {reader : R} {start last : Lines R}
    {lines : List (Answer (Result (String Global) Error))} → GivesLines reads ⊤ start lines last
    → start.reader ≡ reader → start.held.bytes.items ≡ [] → LinesRead reads reader
lines_read {start = start} {last = last} {lines = lines} came same empty =
    record { start = start; last = last; lines = lines; begun = (same, empty); came = came }
