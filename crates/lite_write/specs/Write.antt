-- The `write` future: each poll writes once.
use Rattle.std.specs.Prelude.{◌≡◌, ◌≤◌, ℕ, length, Result, IfOk}
use Rattle.lite_write.specs.Uses.{Error, IfReady, Poll, WriteMark, write_marks, Runs}
use Rattle.lite_write.specs.declared.write.WriteFuture.{WriteFuture}

-- One poll of `write`: the writer ran by the marks of this result, which counts at most the bytes offered. The future
-- keeps its reference and the bytes.
pub record Writes {W : Type 0} (writes : Runs WriteMark W) (x : WriteFuture W) (c : Poll (Result ℕ Error))
    (y : WriteFuture W) : Type 0 where
  pub came : writes x.writer.now (write_marks c x.buf.now) y.writer.now
  pub bound : IfReady c (λ r. IfOk r (λ n. n ≤ length x.buf.now))
  pub stays : y ≡ record x { writer = record x.writer { now = y.writer.now } }
