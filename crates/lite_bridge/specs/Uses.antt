-- What two or more files of this crate take from other crates. The prelude, and a name that two modules have, are imported from where they are.
pub use Rattle.futures.specs.Poll.{IfReady}
pub use Rattle.futures.specs.declared.task.Poll.{Poll}
pub use Rattle.futures.specs.declared.task.Poll.TheVariants.{Pending, Ready}
pub use Rattle.lite_base.specs.Answers.{Comparable, Gives}
pub use Rattle.lite_base.specs.Registered.{Registered}
pub use Rattle.lite_base.specs.Runs.{Runs}
pub use Rattle.lite_buffered.specs.BufReader.{ThroughBuffer, bytes_ahead, reader_capacity, reader_inner, SeeksThrough}
pub use Rattle.lite_buffered.specs.declared.buf_reader.BufReader.{BufReader}
pub use Rattle.lite_io_base.specs.Marks.{by_kind, ReadMark, bytes, fill_marks, read_marks}
pub use Rattle.lite_io_base.specs.Laws.Steady.{told_marks_agree}
pub use Rattle.lite_io_base.specs.Laws.Runs.{steps_laws}
pub use Rattle.lite_io_base.specs.Runs.{MarkLaws, room_in}
pub use Rattle.lite_io_base.specs.Steady.{CalmReadLaws, NoPendingRead, SteadyReadLaws, strip_marks, CalmWriteLaws, NoPendingWrite, SteadyWriteLaws}
pub use Rattle.lite_io_base.specs.WriteMarks.{WriteMark, bytes_taken, done_marks, write_marks}
pub use Rattle.lite_io_base.specs.WriteMarks.WriteMark.{closed, flushed}
pub use Rattle.lite_io_base.specs.Known.{ReadsScript}
pub use Rattle.lite_base.specs.FutureLaws.{PolledByCalls}
pub use Rattle.std.proofs.Common.{Global, add-zero, ap, append-nil, arith, drop-drop, inl, inr, length-append}
pub use Rattle.std.proofs.Common.{length-take, length-take-le, refl, subst, sym, ◌∙◌}
pub use Rattle.std.proofs.lemmas.Grind.{common_steps}
pub use Rattle.std.proofs.lemmas.List.{take_all}
pub use Rattle.std.specs.Borrow.{Lends, sem}
pub use Rattle.std.specs.Io.{ReadsAtMost, WritesAtMost}
pub use Rattle.std.specs.Io.KnownBytes.{Keeps, ReadConsumes, WriteAppends}
pub use Rattle.std.specs.Io.Seek.{SeekMoves, StaysAt}
pub use Rattle.std.specs.Io.Slices.{io_slices_bytes}
pub use Rattle.std.specs.IoError.{error_kind}
pub use Rattle.std.specs.declared.io.Error.{Error}
pub use Rattle.std.specs.declared.io.ErrorKind.{ErrorKind}
pub use Rattle.std.specs.declared.io.ErrorKind.TheVariants.{OutOfMemory}
pub use Rattle.std.specs.declared.io.traits.SeekFrom.{SeekFrom}
pub use Rattle.std.specs.declared.io.traits.SeekFrom.TheVariants.{Current, End, Start}
pub use Rattle.std.specs.declared.vec.Vec.{Vec}
pub use denote.MutBor.{MutBor}
