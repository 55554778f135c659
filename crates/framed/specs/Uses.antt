-- What two or more files of this crate take from other crates. The prelude, and a name that two modules have, are imported from where they are.
pub use Rattle.futures.specs.Poll.{IfReady}
pub use Rattle.futures.specs.Task.{Keeps}
pub use Rattle.futures.specs.declared.task.Poll.TheVariants.{Pending, Ready}
pub use Rattle.lite_base.proofs.Waited.{done}
pub use Rattle.lite_base.specs.Answers.{Answer}
pub use Rattle.lite_base.specs.Chain.{Reaches}
pub use Rattle.lite_base.specs.Ranks.{Ranks}
pub use Rattle.lite_base.specs.Registered.{Registered}
pub use Rattle.lite_base.specs.Runs.{Runs}
pub use Rattle.lite_io_base.specs.Counting.{ReadCounting}
pub use Rattle.lite_io_base.specs.Laws.Marks.{taken_both}
pub use Rattle.lite_io_base.specs.Marks.{ReadMark, bytes, fill_marks}
pub use Rattle.lite_io_base.specs.Runs.{MarkLaws}
pub use Rattle.lite_io_base.specs.Steady.{EndsFlushed}
pub use Rattle.lite_io_base.specs.WriteMarks.{WriteMark, bytes_taken}
pub use Rattle.lite_io_base.specs.Runs.{without_return}
pub use Rattle.lite_io_base.specs.Steady.{ToldStripped}
pub use Rattle.lite_write.proofs.Handed.{flushes_both, once_flushes}
pub use Rattle.lite_write.specs.Handed.{WritesAndFlushes}
