-- What two or more files of this crate take from other crates. The prelude, and a name that two modules have, are imported from where they are.
pub use Rattle.futures.specs.Poll.{IfReady}
pub use Rattle.futures.specs.Task.{Keeps, Lasting}
pub use Rattle.futures.specs.declared.task.Poll.{Poll}
pub use Rattle.futures.specs.declared.task.Poll.TheVariants.{Pending, Ready}
pub use Rattle.lite_base.specs.Answers.{Comparable}
pub use Rattle.lite_base.specs.Laws.Calm.{calm_part}
pub use Rattle.lite_base.specs.Ranks.{Ranks, ranks_of}
pub use Rattle.lite_base.specs.Registered.{Registered, HoldsWoken}
pub use Rattle.lite_base.specs.Runs.{Runs}
pub use Rattle.lite_io_base.specs.Counting.{ReadCounting, Falls}
pub use Rattle.lite_io_base.specs.Marks.{by_kind, AllGiven, ReadMark, bytes, fill_marks, filled_marks, given_count, moved_marks, read_marks}
pub use Rattle.lite_io_base.specs.Known.{Known, ReadsKnown}
pub use Rattle.lite_io_base.specs.Laws.Marks.{given_count-append, given_parts}
pub use Rattle.lite_io_base.specs.Laws.Runs.{CountsWithin, idle_laws, reads_front}
pub use Rattle.lite_io_base.specs.Laws.Steady.{comparable_behind, comparable_none, no_wait_both, strip_marks-append, steady_write_part}
pub use Rattle.lite_io_base.specs.Parts.{Part}
pub use Rattle.lite_io_base.specs.Runs.{Idle, MarkLaws, OnlyOkLends, ReadsInto, Shows, room_in, SeekKeeps}
pub use Rattle.lite_io_base.specs.Steady.{CalmReadLaws, NoPendingRead, SteadyReadLaws, strip_marks, CalmWriteLaws, SteadyWriteLaws}
pub use Rattle.lite_io_base.specs.WriteMarks.{WriteMark, bytes_taken, done_marks, write_marks}
pub use Rattle.std.proofs.Common.{ap, append-nil, append_assoc, arith, inl, inr, length-append, length-take}
pub use Rattle.std.proofs.Common.{length-take-le, refl, rules, subst, sym, take-append-drop, take-take, take_all, ◌∙◌}
pub use Rattle.std.proofs.lemmas.Grind.{common_steps}
pub use Rattle.std.proofs.lemmas.List.{drop-take}
pub use Rattle.std.specs.Borrow.{Lends, sem}
pub use Rattle.std.specs.Box.{boxed_slice_items}
pub use Rattle.std.specs.IoError.{error_kind}
pub use Rattle.std.specs.declared.io.Error.{Error}
pub use Rattle.std.specs.declared.io.ErrorKind.{ErrorKind}
pub use Rattle.std.specs.declared.io.ErrorKind.TheVariants.{Interrupted, WriteZero}
pub use Rattle.std.specs.declared.io.slices.IoSliceMut.{IoSliceMut}
pub use Rattle.std.specs.declared.io.traits.SeekFrom.{SeekFrom}
pub use Rattle.std.specs.declared.io.traits.SeekFrom.TheVariants.{Current}
