-- The `close` future: each poll calls `poll_close` of a writer once.
use Rattle.std.specs.Prelude.{◌≡◌, Result}
use Rattle.lite_write.specs.Uses.{Error, Poll, WriteMark, done_marks, Runs}
use Rattle.lite_write.specs.declared.close.CloseFuture.{CloseFuture}

-- One poll of `close`: the writer ran by the mark of this result. The future keeps its reference.
pub record Closes {W : Type 0} (writes : Runs WriteMark W) (x : CloseFuture W) (c : Poll (Result (Unit {0}) Error))
    (y : CloseFuture W) : Type 0 where
  pub came : writes x.writer.now (done_marks WriteMark.closed c) y.writer.now
  pub stays : y ≡ record x { writer = record x.writer { now = y.writer.now } }
