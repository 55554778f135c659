-- The `write_vectored` future: each poll writes once from several buffers.
use Rattle.std.specs.Prelude.{◌≡◌, ◌≤◌, ℕ, length, Result, IfOk}
use Rattle.lite_write.specs.Uses.{io_slices_bytes, Error, IfReady, Poll, WriteMark, write_marks, Runs}
use Rattle.lite_write.specs.declared.write_vectored.WriteVectoredFuture.{WriteVectoredFuture}

-- One poll of `write_vectored`: the writer ran by the marks of this result, as if offered the bytes of all buffers in
-- one. The result counts at most these bytes. The future keeps its reference and the buffers.
pub record WritesVectored {W : Type 0} (writes : Runs WriteMark W) (x : WriteVectoredFuture W)
    (c : Poll (Result ℕ Error)) (y : WriteVectoredFuture W) : Type 0 where
  pub came : writes x.writer.now (write_marks c (io_slices_bytes x.bufs.now)) y.writer.now
  pub bound : IfReady c (λ r. IfOk r (λ n. n ≤ length (io_slices_bytes x.bufs.now)))
  pub stays : y ≡ record x { writer = record x.writer { now = y.writer.now } }
