-- The `read` future: each poll reads once into a buffer.
use Rattle.std.specs.Prelude.{◌≡◌, ◌≤◌, ℕ, length, Result, IfOk}
use Rattle.lite_read.specs.Uses.{Error, IfReady, Poll, ReadMark, Runs}
use Rattle.lite_io_base.specs.Marks.{read_marks}
use Rattle.lite_read.specs.declared.read.ReadFuture.{ReadFuture}

-- One poll of `read`: the reader ran by the marks of this result, which counts at most the buffer's length. The future
-- keeps both references, and the buffer its length.
pub record Reads {R : Type 0} (reads : Runs ReadMark R) (x : ReadFuture R) (c : Poll (Result ℕ Error))
    (y : ReadFuture R) : Type 0 where
  pub came : reads x.reader.now (read_marks c y.buf.now) y.reader.now
  pub bound : IfReady c (λ r. IfOk r (λ n. n ≤ length y.buf.now))
  pub room : length y.buf.now ≡ length x.buf.now
  pub stays : y ≡ record { reader = record x.reader { now = y.reader.now }; buf = record x.buf { now = y.buf.now } }
