-- What two or more files of this crate take from other crates. The prelude, and a name that two modules have, are imported from where they are.
pub use Rattle.futures.specs.Poll.{IfReady}
pub use Rattle.futures.specs.Task.{Keeps}
pub use Rattle.futures.specs.declared.task.Poll.{Poll}
pub use Rattle.futures.specs.declared.task.Poll.TheVariants.{Pending, Ready}
pub use Rattle.lite_base.specs.Registered.{Registered}
pub use Rattle.lite_base.specs.Runs.{Runs}
pub use Rattle.lite_io_base.specs.Laws.Runs.{CountsWithin, reads_among}
pub use Rattle.lite_io_base.specs.Marks.{ReadMark, bytes, count_of, moved_marks, read_marks}
pub use Rattle.lite_io_base.specs.Parts.{Part, PartRuns, PartsInOrder}
pub use Rattle.lite_io_base.specs.Runs.{MarkLaws, ReadsInto, StandsFirst, room_in, Steps}
pub use Rattle.lite_io_base.specs.WriteMarks.{WriteMark, done_marks, write_marks}
pub use Rattle.lite_io_base.specs.WriteMarks.WriteMark.{closed, flushed}
pub use Rattle.std.proofs.Common.{add-zero, ap, append-nil, append_assoc, arith, get_or, inr, length-append, length-take-le, refl, subst, sym, ◌∙◌}
pub use Rattle.std.proofs.lemmas.List.{map-append}
pub use Rattle.std.proofs.lemmas.List.Concat.{flat_map-append}
pub use Rattle.std.proofs.lemmas.List.Sums.{sum_by-append, sum_by-cons}
pub use Rattle.std.specs.Io.Slices.{io_slices_bytes}
pub use Rattle.std.specs.IoError.{error_kind}
pub use Rattle.std.specs.List.{sum_by}
pub use Rattle.std.specs.declared.alloc.AllocError.{AllocError}
pub use Rattle.std.specs.declared.io.Error.{Error}
pub use Rattle.std.specs.declared.io.ErrorKind.{ErrorKind}
pub use Rattle.std.specs.declared.io.ErrorKind.TheVariants.{OutOfMemory}
pub use Rattle.std.specs.declared.io.slices.IoSliceMut.{IoSliceMut}
