-- The `flush` future: each poll calls `poll_flush` of a writer once.
use Rattle.std.specs.Prelude.{◌≡◌, Result}
use Rattle.lite_write.specs.Uses.{Error, Poll, WriteMark, done_marks, Runs}
use Rattle.lite_write.specs.declared.flush.FlushFuture.{FlushFuture}

-- One poll of `flush`: the writer ran by the mark of this result. The future keeps its reference.
pub record Flushes {W : Type 0} (writes : Runs WriteMark W) (x : FlushFuture W) (c : Poll (Result (Unit {0}) Error))
    (y : FlushFuture W) : Type 0 where
  pub came : writes x.writer.now (done_marks WriteMark.flushed c) y.writer.now
  pub stays : y ≡ record x { writer = record x.writer { now = y.writer.now } }
