-- The `read_vectored` future: each poll reads once into several buffers.
use Rattle.std.specs.Prelude.{◌≡◌, ◌≤◌, ℕ, List, length, Some, Result, IfOk}
use Rattle.lite_read.specs.Uses.{MutBor, Error, IfReady, Poll, ReadMark, Runs}
use Rattle.lite_io_base.specs.Runs.{ReadsInto, room_in}
use Rattle.std.specs.declared.io.slices.IoSliceMut.{IoSliceMut}
use Rattle.lite_read.specs.declared.read_vectored.ReadVectoredFuture.{ReadVectoredFuture}

-- One poll of `read_vectored`: the reader ran as in a read into one buffer with the room of all buffers together, and
-- an `Ok` counts at most that room. The future keeps both references, and the number of buffers.
pub record ReadsVectored {R : Type 0} (reads : Runs ReadMark R) (x : ReadVectoredFuture R) (c : Poll (Result ℕ Error))
    (y : ReadVectoredFuture R) : Type 0 where
  pub bufs : MutBor (List IoSliceMut)
  pub after : List IoSliceMut
  pub held : x.bufs ≡ Some bufs
  pub came : ReadsInto reads x.reader.now c bufs.now y.reader.now
  pub bound : IfReady c (λ r. IfOk r (λ n. n ≤ room_in bufs.now))
  pub count : length after ≡ length bufs.now
  pub stays : y ≡ record { reader = record x.reader { now = y.reader.now }; bufs = Some (record bufs { now = after }) }
