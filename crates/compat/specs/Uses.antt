-- What two or more files of this crate take from other crates.
pub use Rattle.futures.specs.Poll.{IfReady, OnPending}
pub use Rattle.futures.specs.Task.{Covers, Keeps, Lasting}
pub use Rattle.futures.specs.declared.task.Poll.{Poll}
pub use Rattle.futures.specs.declared.task.Poll.TheVariants.{Pending, Ready}
pub use Rattle.lite_base.specs.Answers.{Answer, strip}
pub use Rattle.lite_base.specs.Runs.{Runs}
pub use Rattle.lite_io_base.specs.Marks.{ReadMark, bytes, read_marks}
pub use Rattle.lite_io_base.specs.Runs.{Steps}
pub use Rattle.lite_io_base.specs.WriteMarks.{WriteMark, bytes_taken, write_marks, done_marks}
pub use Rattle.lite_write.specs.MarkLists.{bytes_told}
pub use Rattle.std.proofs.Common.{ap, inl, inr, refl, subst, sym, ◌∙◌}
pub use Rattle.std.specs.IoError.{error_kind}
pub use Rattle.std.specs.List.{FoldsTo}
pub use Rattle.std.specs.declared.io.Error.{Error}
pub use Rattle.tokio.specs.Io.Moved.{Passes}
