-- How bytes pass through the buffer of a `BufReader`.
use Rattle.std.specs.Prelude.{◌≡◌, ℕ, zero, suc, ◌+◌, List, [], ◌∷◌, ◌++◌, ◌≤◌, ◌<◌, ◌⊎◌, length, slice_range, Result, ⊤, pos, ◌-ℤ◌, Ok, Err, FitsSigned}
use Rattle.futures.specs.Task.{Lasting}
use Rattle.lite_buffered.specs.Uses.{Error, Poll, ReadMark, bytes, read_marks, WriteMark, Ranks, Runs, Part, ErrorKind, SeekFrom, Current, Ready, Pending}
use Rattle.lite_buffered.specs.declared.buf_reader.BufReader.{BufReader}
use Rattle.lite_io_base.specs.Parts.{PartsInOrder, reading_of}
use Rattle.std.specs.Int.{w64}
use Rattle.std.specs.declared.io.traits.SeekFrom.TheVariants.{End, Start}

-- The bytes ahead: those in the buffer that were read from the inner reader and not yet consumed.
abbrev pub bytes_ahead : {R : Type 0} → BufReader R → List ℕ
bytes_ahead r = slice_range r.buf.items r.pos r.end

-- The inner reader, from which the buffer is filled.
abbrev pub reader_inner : {R : Type 0} → BufReader R → R
reader_inner r = r.inner

-- What a `Pending` has registered, from what a `Pending` of the inner reader has. After a `Pending` no byte is ahead, so
-- that nothing is said of values with bytes ahead.
abbrev pub AheadRegisters : {R : Type 0} → (R → Lasting → Type 0) → BufReader R → Lasting → Type 0
AheadRegisters registers r fact = bytes_ahead r ≡ [] → registers (reader_inner r) fact

-- The capacity of the buffer.
abbrev pub reader_capacity : {R : Type 0} → BufReader R → ℕ
reader_capacity r = length r.buf.items

-- The second list is the first with ends of file inserted anywhere.
pub data Padded : List ReadMark → List ReadMark → Type 0 where
  none : Padded [] []
  same : (m : ReadMark) (l k : List ReadMark) → Padded l k → Padded (m ∷ l) (m ∷ k)
  more : (l k : List ReadMark) → Padded l k → Padded l (ReadMark.end ∷ k)

-- The bytes ahead before, followed by the inner reader's marks (`came`), are the marks passed on (`out`), followed by
-- the bytes ahead after. With capacity 0, no bytes are ever ahead. Then a fill returns an empty slice, which looks like
-- end of file, so `out` may have more ends than `came`.
abbrev pub PassesBuffer : ℕ → List ℕ → List ReadMark → List ReadMark → List ℕ → Type 0
PassesBuffer zero before came out after = (before ≡ []) × (after ≡ []) × Padded came out
PassesBuffer (suc n) before came out after = bytes before ++ came ≡ out ++ bytes after

-- The run of a `BufReader`: the inner reader ran, and its marks passed through the buffer (`PassesBuffer`). The
-- capacity stays.
pub record ThroughBuffer {R : Type 0} (reads : Runs ReadMark R) (x : BufReader R) (ms : List ReadMark)
    (y : BufReader R) : Type 0 where
  pub came : List ReadMark
  pub ran : reads x.inner came y.inner
  pub capacity : reader_capacity y ≡ reader_capacity x
  pub passes : PassesBuffer (reader_capacity x) (bytes_ahead x) came ms (bytes_ahead y)

-- No mark, or the marks of one read into a buffer of at most `most` bytes.
abbrev pub OfOneRead : ℕ → List ReadMark → Type 0
OfOneRead most told =
    (told ≡ []) ⊎ ((r : Poll (Result ℕ Error)) × (buf : List ℕ) × (length buf ≤ most) × (told ≡ read_marks r buf))

-- The inner reader is read at most once, into at most `most` bytes of room.
pub record PollsOnce {R : Type 0} (reads : Runs ReadMark R) (most : ℕ) (x y : R) : Type 0 where
  pub told : List ReadMark
  pub ran : reads x told y
  pub one : OfOneRead most told

-- The inner reader is read once, into at most `most` bytes of room, and into some room unless `most` is 0. The marks do
-- not show how much room the read had, because a read into less room leaves the same marks as a short read.
pub record ReadsOnce {R : Type 0} (reads : Runs ReadMark R) (most : ℕ) (x y : R) : Type 0 where
  pub answer : Poll (Result ℕ Error)
  pub buf : List ℕ
  pub fits : length buf ≤ most
  pub some : 0 < most → 0 < length buf
  pub ran : reads x (read_marks answer buf) y

-- If no byte is ahead, the inner reader is polled once, for at most `most` bytes. If some are, it is not polled.
abbrev pub AsksWhereEmpty : {R : Type 0} → Runs ReadMark R → ℕ → BufReader R → BufReader R → Type 0
AsksWhereEmpty reads most x y =
    (bytes_ahead x ≡ [] → ReadsOnce reads most x.inner y.inner) × (0 < length (bytes_ahead x) → y.inner ≡ x.inner)

-- A read that bypasses the buffer: the inner reader read into the caller's room, and no byte is ahead. This is how a
-- read runs if no byte is ahead and the room is at least the capacity. A fill whose bytes are all copied at once leaves
-- the same.
abbrev pub ReadsPast : {R : Type 0} → Runs ReadMark R → Runs ReadMark (BufReader R)
ReadsPast reads x ms y = reads x.inner ms y.inner × (bytes_ahead y ≡ [])

-- The run of writes: they go directly to the inner value, and the buffer stays as it is.
abbrev pub Past : {R : Type 0} → Runs WriteMark R → Runs WriteMark (BufReader R)
Past writes x ms y = writes x.inner ms y.inner × (reader_capacity y ≡ reader_capacity x) × (bytes_ahead y ≡ bytes_ahead x)

-- The rank of a `BufReader`: the inner reader's rank, followed by the number of bytes ahead.
abbrev pub ahead_ranks : {R : Type 0} → Ranks R → Ranks (BufReader R)
ahead_ranks r =
    record {
      width = r.width + 1;
      rank = λ x. r.rank x.inner ++ length (bytes_ahead x) ∷ [];
      counts = λ x. r.counts x.inner;
      firm = λ x. r.firm x.inner;
    }

-- How reads and writes of one `BufReader` reach its inner value.

-- Two lists of parts have the same writes, and reads at the same places.
abbrev pub SameWrites : List Part → List Part → Type 0
SameWrites [] [] = ⊤
SameWrites (Part.reading l ∷ ps) (Part.reading k ∷ qs) = SameWrites ps qs
SameWrites (Part.writing l ∷ ps) (Part.writing k ∷ qs) = (k ≡ l) × SameWrites ps qs
SameWrites ps qs = ⊥

-- However reads and writes of `x` follow one another, the inner value is read and written in the same order. The writes
-- are the same. Over all reads together, the bytes pass through the buffer (`PassesBuffer`).
abbrev pub KeepsOrder : {R : Type 0} → Runs ReadMark R → Runs WriteMark R → BufReader R → Type 0
KeepsOrder {R} reads writes x =
    (ps : List Part) (y : BufReader R) → PartsInOrder (ThroughBuffer reads) (Past writes) x ps y
    → (qs : List Part) × PartsInOrder reads writes x.inner qs y.inner × SameWrites ps qs
    × PassesBuffer (reader_capacity x) (bytes_ahead x) (reading_of qs) (reading_of ps) (bytes_ahead y)

-- What a seek of a `BufReader` does. `seeks` says what a seek of its inner reader may do.

-- What a seek returns, with an error given by its kind.
abbrev pub SeekAnswer : Type 0
SeekAnswer = Poll (Result ℕ ErrorKind)

-- The bytes ahead after a seek: none after a success, and the same as before after any other result.
abbrev pub AheadAfter : SeekAnswer → List ℕ → List ℕ → Type 0
AheadAfter (Ready (Ok n)) before after = after ≡ []
AheadAfter (Ready (Err kind)) before after = after ≡ before
AheadAfter Pending before after = after ≡ before

-- The result of a seek is not a success.
abbrev pub IsUnsuccessful : SeekAnswer → Type 0
IsUnsuccessful (Ready (Ok n)) = ⊥
IsUnsuccessful (Ready (Err kind)) = ⊤
IsUnsuccessful Pending = ⊤

module _ {R : Type 0} (seeks : R → SeekFrom → SeekAnswer → R → Type 0) where
  -- The inner reader seeks once. A success drops the bytes ahead.
  pub record SeeksOnce (x : BufReader R) (to : SeekFrom) (r : SeekAnswer) (y : BufReader R) : Type 0 where
    pub sought : seeks x.inner to r y.inner
    pub capacity : reader_capacity y ≡ reader_capacity x
    pub after : AheadAfter r (bytes_ahead x) (bytes_ahead y)

  -- The inner reader seeks twice, the second time only if the first succeeds. Otherwise the result is that of the
  -- first.
  abbrev pub SeeksTwice : BufReader R → SeekFrom → SeekFrom → SeekAnswer → BufReader R → Type 0
  SeeksTwice x first second r y =
      ((n : ℕ) × (m : BufReader R) × SeeksOnce x first (Ready (Ok n)) m × SeeksOnce m second r y)
      ⊎ (SeeksOnce x first r y × IsUnsuccessful r)

  -- A seek of a `BufReader`. From the current position it seeks by the offset minus the number of bytes ahead. If that
  -- is not an `i64`, it seeks back by that number, and then by the offset. From the start or the end it seeks as the
  -- inner reader does.
  abbrev pub SeeksThrough : BufReader R → SeekFrom → SeekAnswer → BufReader R → Type 0
  SeeksThrough x (Start n) r y = SeeksOnce x (Start n) r y
  SeeksThrough x (End offset) r y = SeeksOnce x (End offset) r y
  SeeksThrough x (Current offset) r y =
      let less = offset -ℤ pos (length (bytes_ahead x)) in
      (FitsSigned w64 less × SeeksOnce x (Current less) r y)
      ⊎ ((FitsSigned w64 less → ⊥) × SeeksTwice x (Current (pos 0 -ℤ pos (length (bytes_ahead x)))) (Current offset) r y)
