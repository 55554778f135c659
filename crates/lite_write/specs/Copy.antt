-- The `copy` future: the bytes of a reader before its first end of file are written to a writer, which is then flushed.
use Rattle.std.specs.Prelude.{◌≡◌, ℕ, List, [], ◌∷◌, ◌<◌, ◌+◌, ◌%◌, ◌^◌, ⊤, ◌++◌, length, Result, Ok, Err}
use Rattle.lite_write.specs.Uses.{bytes_ahead, reader_inner, ReadMark, error_kind, Error, WriteZero, Poll, UpToValue}
use Rattle.lite_write.specs.Uses.{strip, waits, Runs, WriteMark, bytes_taken, ThroughBuffer, bytes}
use Rattle.lite_write.specs.declared.copy.CopyFuture.{CopyFuture}
use Rattle.lite_write.specs.declared.copy.Phase.{Phase}
use Rattle.lite_write.specs.declared.copy.Phase.TheVariants.{Copying, Flushing}
use Rattle.futures.specs.Task.{Lasting}
use Rattle.lite_write.specs.MarkLists.{WritesUpTo, ReadsUpTo, bytes_told, waits_taken, waits_told}

-- The parts of a `copy` future.

-- The end of file that the reader has produced, if it has: once the copy only flushes.
abbrev pub met_in : Phase → List ReadMark
met_in Copying = []
met_in Flushing = ReadMark.end ∷ []

module _ {R W : Type 0} where
  -- The reader that is copied from, below the buffer.
  abbrev pub source_of : CopyFuture R W → R
  source_of x = reader_inner x.reader

  -- The bytes held: those read and not yet written.
  abbrev pub held_of : CopyFuture R W → List ℕ
  held_of x = bytes_ahead x.reader

  -- No byte has been copied or is held, and end of file has not been met.
  pub record NothingCopied (x : CopyFuture R W) : Type 0 where
    pub held : held_of x ≡ []
    pub met : met_in x.phase ≡ []
    pub none : x.amount ≡ 0

-- The value of a `copy`, if it has one (`given`). It is `Ok` of `total`, the number of bytes written, if the reader's
-- end was met, every byte was written, and the last mark is a flush. Otherwise it is the error of the reader, the error
-- of the writer, or `WriteZero` after a write that took none of some bytes.
abbrev pub CopyValue : (given : List (Result ℕ Error)) (failed : List ReadMark) (last : List WriteMark) (after : List ℕ)
    (met : List ReadMark) (total : ℕ) → Type 0
CopyValue [] [] [] after met total = ⊤
CopyValue (Ok n ∷ []) [] (WriteMark.flushed ∷ []) after met total =
    (after ≡ []) × (met ≡ ReadMark.end ∷ []) × (n ≡ total)
CopyValue (Err e ∷ []) [] (WriteMark.fault kind ∷ []) after met total = kind ≡ error_kind e
CopyValue (Err e ∷ []) [] (WriteMark.wrote [] ∷ []) after met total = (error_kind e ≡ WriteZero) × (0 < length after)
CopyValue (Err e ∷ []) (ReadMark.fault kind ∷ []) [] after met total = (kind ≡ error_kind e) × (met ≡ [])
CopyValue given failed last after met total = ⊥

-- What a copy does over some polls. The bytes held `before`, followed by those the reader produced, are those that the
-- writer took, followed by the bytes held `after`. The reader produces bytes and `Pending`s, and then an end of file or
-- an error, if any. After an end of file, which `met` remembers, it is not read. Each `Pending` of the copy is one of
-- the reader or of the writer. The value is the last poll result.
pub record Copied (before : List ℕ) (met told : List ReadMark) (took : List WriteMark)
    (out : List (Poll (Result ℕ Error))) (after : List ℕ)
    (met' : List ReadMark) (total : ℕ) : Type 0 where
  pub failed : List ReadMark
  pub last : List WriteMark
  pub reading : ReadsUpTo (met ++ told) (met' ++ failed)
  pub writing : WritesUpTo took last
  pub balanced : before ++ bytes_told told ≡ bytes_taken took ++ after
  pub waited : waits out ≡ waits_told told + waits_taken took
  pub once : UpToValue out
  pub value : CopyValue (strip out) failed last after met' total

module _ {R W : Type 0} (reads : Runs ReadMark R) (writes : Runs WriteMark W) where
  -- The reader and the writer ran, and what the one produced the other took (`Copied`). `amount` grew by the number of
  -- bytes that the writer took, modulo 2^64.
  pub record Moves (x : CopyFuture R W) (out : List (Poll (Result ℕ Error))) (y : CopyFuture R W) : Type 0 where
    pub told : List ReadMark
    pub took : List WriteMark
    pub came : reads (source_of x) told (source_of y)
    pub went : writes x.writer took y.writer
    pub copied : Copied (held_of x) (met_in x.phase) told took out (held_of y) (met_in y.phase) y.amount
    pub counted : y.amount ≡ (x.amount + length (bytes_taken took)) % 2 ^ 64

  -- The run of `copy`, up to its value (`Moves`). Without a poll the future is unchanged.
  pub record CopyRuns (x : CopyFuture R W) (out : List (Poll (Result ℕ Error))) (y : CopyFuture R W) : Type 0 where
    pub moves : Moves x out y
    pub idle : out ≡ [] → y ≡ x

-- Which of the two registers in the context when a `copy` is pending: the reader if no byte is left to be written, and
-- otherwise the writer. While the copy flushes, it is the writer.
abbrev pub RegistersIn : Phase → List ℕ → Type 0 → Type 0 → Type 0
RegistersIn Copying held reader writer = (held ≡ [] → reader) × (0 < length held → writer)
RegistersIn Flushing held reader writer = writer

module _ {R W : Type 0} where
  -- What a pending `copy` registers in its context: what the reader registers if no byte is left to be written, and
  -- otherwise what the writer registers.
  abbrev pub CopyRegisters : (R → Lasting → Type 0) → (W → Lasting → Type 0) → CopyFuture R W → Lasting → Type 0
  CopyRegisters reads_leave writes_leave x fact =
      RegistersIn x.phase (held_of x) (reads_leave (source_of x) fact) (writes_leave x.writer fact)

  -- One step within a poll of `copy` that does not yet return: the writer takes some bytes, and these are consumed from
  -- the buffer.
  pub record CopiesSome (reads : Runs ReadMark R) (writes : Runs WriteMark W) (x y : CopyFuture R W) : Type 0 where
    pub moves : Moves reads writes x [] y
    pub taken : List ℕ
    pub some : 0 < length taken
    pub given : ThroughBuffer reads x.reader (bytes taken) y.reader
