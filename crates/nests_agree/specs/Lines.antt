-- Two runs of the lines of readers.
use Rattle.std.specs.Prelude.{◌≡◌, ◌≢◌, ⊤, [], List, Result, Ok, Err}
use Rattle.std.specs.IoError.{error_kind}
use Rattle.std.specs.List.{AllByRecursion}
use Rattle.std.specs.declared.io.Error.{Error}
use Rattle.std.specs.declared.io.ErrorKind.TheVariants.{OutOfMemory}
use Rattle.std.specs.declared.string.String.{String}
use Rattle.std.specs.declared.vec.Vec.{Vec}
use Rattle.std.proofs.Common.{Global}
use Rattle.lite_base.specs.Answers.{Answer}
use Rattle.lite_base.specs.Runs.{Runs}
use Rattle.lite_gather.specs.declared.refused.TryCollectError.{TryCollectError}
use Rattle.lite_gather.specs.declared.refused.TryCollectError.TheVariants.{Source, Memory}
use Rattle.lite_io_base.specs.Marks.{ReadMark}
use Rattle.lite_read.specs.Lines.{GivesLines}
use Rattle.lite_read.specs.NoneRefused.{NoneRefused}
use Rattle.lite_read.specs.declared.lines.Lines.{Lines}

-- Lines were read from this reader, from the first line on.
pub record LinesRead {R : Type 0} (reads : Runs ReadMark R) (reader : R) : Type 0 where
  pub start : Lines R
  pub last : Lines R
  pub lines : List (Answer (Result (String Global) Error))
  pub begun : (start.reader ≡ reader) × (start.held.bytes.items ≡ [])
  pub came : GivesLines reads ⊤ start lines last

-- Lines were read from both readers, and `holds` is true if no allocation failed in either run.
abbrev pub FromLines : {R : Type 0} → (reads ample : Runs ReadMark R) → (one other : R) → Type 0 → Type 0
FromLines reads ample one other holds =
    (h : LinesRead reads one) × (k : LinesRead reads other)
    × (GivesLines ample ⊥ h.start h.lines h.last → GivesLines ample ⊥ k.start k.lines k.last → holds)

-- The value of `try_collect` or another such future is not an allocation failure.
abbrev pub WasFound : {C T : Type 0} → Result C (TryCollectError C T Error) → Type 0
WasFound (Ok c) = ⊤
WasFound (Err (Source e)) = error_kind e ≢ OutOfMemory
WasFound (Err (Memory m)) = ⊥

-- The line is not an allocation failure.
abbrev pub IsFound : {A : Type 0} → Result A Error → Type 0
IsFound (Ok x) = ⊤
IsFound (Err e) = error_kind e ≢ OutOfMemory

-- Every run of which no result is an allocation failure is ample.
abbrev pub AmpleUnrefused : {S A : Type 0} → (run ample : Runs (Answer (Result A Error)) S) → Type 0
AmpleUnrefused {S} {A} run ample =
    (x y : S) (l : List (Answer (Result A Error))) → NoneRefused l → run x l y → ample x l y

-- None of the lines that were collected is an allocation failure, and neither is the value.
abbrev pub EachFound : {A E : Type 0} → Result (Vec (Result A Error) Global) E → Type 0
EachFound (Ok v) = AllByRecursion IsFound v.items
EachFound (Err e) = ⊥
