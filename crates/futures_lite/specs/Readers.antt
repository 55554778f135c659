-- Readers: what runs of calls may do, what is lent, and what each reader of the library does, by its own file.
pub use Rattle.lite_io_base.specs.Runs.{Afterwards, Fills, Idle, LendsFront, OnlyOkLends, ReadsInto, Shows, StandsFirst, room_in, Steps, SeekKeeps}
pub use Rattle.lite_io_base.specs.Known.{ReadsScript, Known, Knows, ReadsKnown, unknown}
pub use Rattle.lite_io_base.specs.Armed.{ArmsMarks, ArmsRead, is_read_pending, last_is}
pub use Rattle.lite_io_base.specs.Steady.{CalmReadLaws, NoPendingRead, OneListOfMarks, SteadyReadLaws, strip_marks}
pub use Rattle.lite_buffered.specs.BufReader
pub use Rattle.lite_buffered.specs.Budgeted
pub use Rattle.lite_buffered.specs.Chain
pub use Rattle.lite_buffered.specs.Repeat
pub use Rattle.lite_buffered.specs.Take
pub use Rattle.lite_bridge.specs.Cursor
pub use Rattle.lite_theorems.specs.BothReaders.{BothRead, HasReadMemory, LacksNext, ReadsUp}
-- what one was told while a call was waited for
pub use Rattle.lite_read.specs.Told.{EndsAtFirst, FillsUp, PieceTold, PieceWithin, EndsShort, ToldFewer, VectorLacksRoom, Without}
pub use Rattle.lite_io_base.specs.Steady.{ToldStripped}
pub use Rattle.lite_views.specs.OneCall.{ReadsFront, EachByte}
unfoldable pub use Rattle.lite_views.specs.OneCall.{YieldsOn}
pub use Rattle.lite_read.specs.ReadToEnd
pub use Rattle.lite_read.specs.Bytes
pub use Rattle.lite_read.specs.ReadExact
pub use Rattle.lite_io_base.specs.Steady.{SameByKind, SameOr}
pub use Rattle.lite_base.specs.Runs.{Runs}
