-- Writers: what their runs meet, and what each writer of the library does, by its own file.
pub use Rattle.lite_io_base.specs.Stored.{Grows, Arrives, Stored, Stores, unstored}
pub use Rattle.lite_io_base.specs.Armed.{ArmsWrite, is_write_pending}
pub use Rattle.lite_io_base.specs.Steady.{CalmWriteLaws, EndsFlushed, NoError, NoPendingWrite, SteadyWriteLaws}
pub use Rattle.lite_buffered.specs.BufWriter
pub use Rattle.lite_io_base.specs.WriteMarks.{TakesFront}
pub use Rattle.lite_theorems.specs.BothWriters.{BothWritten, WrittenUp}
pub use Rattle.lite_write.specs.Handed.{FailsAfter, FailsBy, FailsWith, FlushedOnce, FlushedUp, HandedUp, OnlyWrites, WritesAndFlushes}
pub use Rattle.lite_views.specs.OneCall.{AllAccepted, ArrivesAll, WritesFront}
unfoldable pub use Rattle.lite_views.specs.OneCall.{AcceptsAll}
pub use Rattle.lite_write.specs.WriteAll
pub use Rattle.lite_write.specs.Sink
pub use Rattle.lite_write.specs.WriteAll.{NoFailure, NoneFails, WithoutFailure}
