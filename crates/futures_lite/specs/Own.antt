-- Types of one's own: what their runs may be, by steps or with nothing said, and the laws of those.
pub use Rattle.lite_io_base.specs.Runs.{Anything, MarkLaws, Steps}
pub use Rattle.lite_theorems.specs.Anything.{AnyAnswers, AnyValue}
pub use Rattle.lite_theorems.specs.Laws.Anything.{anything_future, anything_reads, anything_stream, anything_writes}
pub use Rattle.lite_theorems.specs.Futures.{StepsToValue, future_by_keeping_steps, future_by_steps}
pub use Rattle.lite_views.specs.Laws.Steps.{lists_after, lists_as, lists_by_relation, lists_by_steps, value_by_steps}
pub use Rattle.lite_views.specs.Views.{ItemsAfter}
pub use Rattle.lite_base.specs.Runs.{Hints, NoHint, Question, Runs}
-- of polls that loop
pub use Rattle.lite_base.specs.Chain.{NextStep, OneStep, Reaches}
pub use Rattle.lite_base.specs.Ranks.{Terminates}
pub use Rattle.lite_base.specs.Laws.Ranks.{Terminates-count, Terminates-map}
pub use Rattle.lite_base.specs.Streams.{HintsAt, ItemsLower, RankLowers}
pub use Rattle.lite_base.specs.Laws.Streams.{stream_by_keeping_steps, stream_by_steps, stream_counting, stream_hinting, stream_ranking}
-- of readers and writers
pub use Rattle.lite_io_base.specs.Joined.{Joined}
pub use Rattle.lite_io_base.specs.Laws.Joined.{joined_by, joined_laws, joined_one}
pub use Rattle.lite_theorems.specs.Readers.{HandsOn, each_byte, MarksLower, FrontLaws, FrontStep, ReadsLeft}
pub use Rattle.lite_theorems.specs.Laws.Readers.{handed_moved, handing_counting, hands_read, reader_handing}
pub use Rattle.lite_theorems.specs.Laws.Readers.{reader_by_steps, reader_counting, front_lowers, front_read}
pub use Rattle.lite_theorems.specs.Laws.Readers.{front_rules, reads_bytes, reads_into, reads_one, writer_by_steps}
