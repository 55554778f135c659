-- How bytes pass through the buffer of a `BufWriter`.
use Rattle.std.specs.Prelude.{◌≡◌, ◌<◌, ◌≤◌, ◌⊎◌, ◌+◌, ℕ, List, [], ◌∷◌, ◌++◌, length, take, slice_range, Result, Ok, Err}
use Rattle.lite_buffered.specs.Uses.{boxed_slice_items, Error, ErrorKind, Interrupted, WriteZero, SeekFrom, Lasting, Poll, Ready, Pending, by_kind}
use Rattle.lite_buffered.specs.Uses.{WriteMark, bytes_taken, write_marks, Runs}
use Rattle.lite_base.specs.Segments.{Segments}
use Rattle.lite_buffered.specs.declared.buf_writer.BufWriter.{BufWriter}

-- The bytes in the buffer.
abbrev pub buffered : {W : Type 0} → BufWriter W → List ℕ
buffered w = take w.len (boxed_slice_items w.buf)

-- The bytes in the buffer that the inner writer has not yet taken. They are the bytes held.
abbrev pub unwritten : {W : Type 0} → BufWriter W → List ℕ
unwritten w = slice_range (boxed_slice_items w.buf) w.written w.len

-- The inner writer, to which the buffer is written.
abbrev pub writer_inner : {W : Type 0} → BufWriter W → W
writer_inner w = w.inner

-- The capacity of the buffer.
abbrev pub writer_capacity : {W : Type 0} → BufWriter W → ℕ
writer_capacity w = length (boxed_slice_items w.buf)

-- No byte is lost. The bytes held before, followed by those accepted (`out`), are those that the inner writer took
-- (`taken`), followed by the bytes held after.
abbrev pub Balanced : List ℕ → List WriteMark → List WriteMark → List ℕ → Type 0
Balanced before out taken after = before ++ bytes_taken out ≡ bytes_taken taken ++ after

-- The inner writer takes held bytes from the front, some at each write, and `rest` is left. Up to 16 interruptions in a
-- row are retried. The number is how many of them came last.
pub data TakesHeld (unwritten : List ℕ) : List WriteMark → List ℕ → ℕ → Type 0 where
  none : TakesHeld unwritten [] unwritten 0
  some : (ms : List WriteMark) (xs rest : List ℕ) (n : ℕ) → TakesHeld unwritten ms (xs ++ rest) n → 0 < length xs
      → TakesHeld unwritten (ms ++ WriteMark.wrote xs ∷ []) rest 0
  interrupted : (ms : List WriteMark) (rest : List ℕ) (n : ℕ) → TakesHeld unwritten ms rest n → 0 < length rest → n < 16
      → TakesHeld unwritten (ms ++ WriteMark.fault Interrupted ∷ []) rest (n + 1)

-- The error with which draining the buffer stops. It is the inner writer's error, or `WriteZero` if the inner writer
-- took none of the bytes left. An interruption is passed on only if no byte is left, or after 16 others.
abbrev pub IsFault : ℕ → List ℕ → List WriteMark → ErrorKind → Type 0
IsFault n left last kind =
    ((last ≡ WriteMark.fault kind ∷ []) × (kind ≡ Interrupted → (left ≡ []) ⊎ (n ≡ 16)))
    ⊎ ((last ≡ WriteMark.wrote [] ∷ []) × (kind ≡ WriteZero) × (0 < length left))

-- The result that ends a segment, with `n` interruptions before it and the bytes `left` still held. `last` is the inner
-- writer's last mark, if it has one. A `Pending` or an error is the inner writer's. A flush, a close, and a write that
-- bypasses the buffer come only if no byte is left. A write without a mark of the inner writer puts its bytes behind
-- those left.
abbrev pub WriterAnswers : ℕ → List ℕ → List WriteMark → WriteMark → List ℕ → Type 0
WriterAnswers n left last (WriteMark.wrote xs) after =
    ((last ≡ []) × (0 < length xs) × (after ≡ left ++ xs)) ⊎ ((last ≡ WriteMark.wrote xs ∷ []) × (left ≡ []) × (after ≡ []))
WriterAnswers n left last WriteMark.nothing after =
    ((last ≡ []) × (after ≡ left)) ⊎ ((last ≡ WriteMark.nothing ∷ []) × (left ≡ []) × (after ≡ []))
WriterAnswers n left last WriteMark.pending after = (last ≡ WriteMark.pending ∷ []) × (after ≡ left)
WriterAnswers n left last (WriteMark.fault kind) after = IsFault n left last kind × (after ≡ left)
WriterAnswers n left last done after = (last ≡ done ∷ []) × (left ≡ []) × (after ≡ [])

-- What the inner writer does for one result of a `BufWriter`: it takes held bytes (`TakesHeld`), and then the result
-- comes (`WriterAnswers`).
pub record WriterSegment (before : List ℕ) (taken : List WriteMark) (told : WriteMark) (after : List ℕ) : Type 0 where
  pub drained : List WriteMark
  pub last : List WriteMark
  pub cut : taken ≡ drained ++ last
  pub left : List ℕ
  pub interruptions : ℕ
  pub drains : TakesHeld before drained left interruptions
  pub answers : WriterAnswers interruptions left last told after

-- The inner writer's marks are cut into segments, one for each result of the `BufWriter`.
abbrev pub WriterSegments : List ℕ → List WriteMark → List WriteMark → List ℕ → Type 0
WriterSegments = Segments WriterSegment

-- The run of a `BufWriter`: the inner writer ran, its marks are cut into segments, one for each result, and no byte is
-- lost. The capacity stays.
pub record Buffers {W : Type 0} (writes : Runs WriteMark W) (x : BufWriter W) (out : List WriteMark)
    (y : BufWriter W) : Type 0 where
  pub taken : List WriteMark
  pub ran : writes x.inner taken y.inner
  pub capacity : writer_capacity y ≡ writer_capacity x
  pub segments : WriterSegments (unwritten x) taken out (unwritten y)
  pub balanced : Balanced (unwritten x) out taken (unwritten y)

-- The inner writer takes all bytes held.
abbrev pub TakesAll : Runs WriteMark (List ℕ)
TakesAll before taken after = (n : ℕ) × TakesHeld before taken [] n × (after ≡ [])

-- The inner writer does not take all bytes held. The result is its `Pending`, or the error with which draining stops.
abbrev pub StopsShort : {A : Type 0} → List ℕ → List WriteMark → Poll (Result A ErrorKind) → List ℕ → Type 0
StopsShort before taken (Ready (Ok a)) after = ⊥
StopsShort before taken (Ready (Err kind)) after =
    WriterSegment before taken (WriteMark.fault kind) after × (0 < length after)
StopsShort before taken Pending after = WriterSegment before taken WriteMark.pending after × (0 < length after)

-- The inner writer's marks when the buffer is drained. `Ok` means that it took all bytes held. After `Pending` or an
-- error, some are left.
abbrev pub Empties : List ℕ → List WriteMark → Poll (Result (Unit {0}) ErrorKind) → List ℕ → Type 0
Empties before taken (Ready (Ok u)) after = TakesAll before taken after
Empties before taken (Ready (Err kind)) after = StopsShort {A = Unit {0}} before taken (Ready (Err kind)) after
Empties before taken Pending after = StopsShort {A = Unit {0}} before taken Pending after

-- The inner writer ran to drain the buffer, with this result. The capacity stays.
pub record FlushesBuffer {W : Type 0} (writes : Runs WriteMark W) (x : BufWriter W)
    (r : Poll (Result (Unit {0}) ErrorKind)) (y : BufWriter W) : Type 0 where
  pub taken : List WriteMark
  pub ran : writes x.inner taken y.inner
  pub capacity : writer_capacity y ≡ writer_capacity x
  pub empties : Empties (unwritten x) taken r (unwritten y)

-- The buffer is drained, or it already has room for `count` more bytes and nothing happens.
abbrev pub MakesRoom : {W : Type 0} → Runs WriteMark W → BufWriter W → ℕ → Poll (Result (Unit {0}) ErrorKind)
    → BufWriter W → Type 0
MakesRoom writes x count r y =
    FlushesBuffer writes x r y ⊎ ((y ≡ x) × (r ≡ Ready (Ok tt)) × (length (buffered x) + count ≤ writer_capacity x))

-- The bytes fit into the buffer behind those there, and are too few to bypass it: fewer than its capacity.
abbrev pub FitsBuffer : {W : Type 0} → BufWriter W → List ℕ → Type 0
FitsBuffer w xs = (length (buffered w) + length xs ≤ writer_capacity w) × (length xs < writer_capacity w)

-- All bytes are appended to the buffer, and the inner writer is not called.
abbrev pub BuffersAll : {E W : Type 0} → BufWriter W → List ℕ → Poll (Result ℕ E) → BufWriter W → Type 0
BuffersAll x xs r y = (r ≡ Ready (Ok (length xs))) × (writer_inner y ≡ writer_inner x) × (buffered y ≡ buffered x ++ xs)

-- A write that bypasses the buffer, as one of at least the capacity does. The buffer is drained first. If that stops,
-- its result is returned. Otherwise the inner writer's result for these bytes is returned, and no byte is held.
pub record PassesOn {W : Type 0} (writes : Runs WriteMark W) (x : BufWriter W) (xs : List ℕ)
    (r : Poll (Result ℕ Error)) (y : BufWriter W) : Type 0 where
  pub taken : List WriteMark
  pub between : W
  pub ran : writes x.inner taken between
  pub passed : (TakesAll (unwritten x) taken (unwritten y) × writes between (write_marks r xs) y.inner)
      ⊎ (StopsShort (unwritten x) taken (by_kind r) (unwritten y) × (y.inner ≡ between))

-- A seek of a `BufWriter`. The inner writer takes all bytes held, and then it seeks. If draining stops before, with a
-- `Pending` or an error, it does not seek. No byte is lost.
pub record SeeksAfter {W : Type 0} (writes : Runs WriteMark W)
    (seeks : W → SeekFrom → Poll (Result ℕ ErrorKind) → W → Type 0)
    (x : BufWriter W) (to : SeekFrom) (r : Poll (Result ℕ ErrorKind)) (y : BufWriter W) : Type 0 where
  pub taken : List WriteMark
  pub between : W
  pub ran : writes x.inner taken between
  pub capacity : writer_capacity y ≡ writer_capacity x
  pub sought : (TakesAll (unwritten x) taken (unwritten y) × seeks between to r y.inner)
      ⊎ (StopsShort (unwritten x) taken r (unwritten y) × (y.inner ≡ between))
  pub balanced : Balanced (unwritten x) [] taken (unwritten y)

-- What a pending seek registers in its context: what a pending seek of the inner writer registers if no byte is held,
-- and otherwise what a pending write of it registers.
abbrev pub SeekRegisters : {W : Type 0} → (W → Lasting → Type 0) → (W → Lasting → Type 0) → BufWriter W → Lasting
    → Type 0
SeekRegisters writes_leave seeks_leave w fact =
    (unwritten w ≡ [] → seeks_leave w.inner fact) × (0 < length (unwritten w) → writes_leave w.inner fact)

-- The bytes in the buffer after draining it: those still held, or after `Pending` all that were there or none.
abbrev pub ShownAfter : {A E W : Type 0} → Poll (Result A E) → BufWriter W → BufWriter W → Type 0
ShownAfter Pending x y = (buffered y ≡ buffered x) ⊎ (buffered y ≡ [])
ShownAfter (Ready r) x y = buffered y ≡ unwritten y
