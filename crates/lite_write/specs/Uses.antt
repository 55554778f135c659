-- What two or more files of this crate take from other crates. The prelude, and a name that two modules have, are imported from where they are.
pub use Rattle.futures.specs.Poll.{IfReady}
pub use Rattle.futures.specs.Task.{Keeps}
pub use Rattle.futures.specs.declared.task.Poll.{Poll}
pub use Rattle.futures.specs.declared.task.Poll.TheVariants.{Pending, Ready}
pub use Rattle.lite_base.specs.Alike.{Sameness}
pub use Rattle.lite_base.specs.Answers.{ComparableBy, UpToValue, strip}
pub use Rattle.lite_base.specs.Calm.{CalmLaws, waits}
pub use Rattle.lite_base.specs.Chain.{OneStep}
pub use Rattle.lite_base.specs.FutureLaws.{FutureLaws, FutureRunLaws}
pub use Rattle.lite_base.specs.Laws.Answers.{up_to_once}
pub use Rattle.lite_base.specs.Laws.FutureLaws.{future_laws_of}
pub use Rattle.lite_base.specs.Laws.Segments.{to_value_last}
pub use Rattle.lite_base.specs.Registered.{Registered}
pub use Rattle.lite_base.specs.Runs.{Runs}
pub use Rattle.lite_base.specs.Steady.{FutureSteadyLaws}
pub use Rattle.lite_buffered.specs.BufReader.{ThroughBuffer, bytes_ahead, reader_capacity, reader_inner}
pub use Rattle.lite_io_base.specs.Laws.Marks.{taken_both}
pub use Rattle.lite_io_base.specs.Laws.Runs.{offered_marks}
pub use Rattle.lite_io_base.specs.Marks.{ReadMark, bytes}
pub use Rattle.lite_io_base.specs.Runs.{MarkLaws}
pub use Rattle.lite_io_base.specs.Steady.{CalmWriteLaws, NoPendingWrite}
pub use Rattle.lite_io_base.specs.WriteMarks.{WriteMark, bytes_taken, done_marks, write_marks}
pub use Rattle.lite_io_base.specs.Steady.{SameByKind}
pub use Rattle.lite_base.specs.Laws.FutureLaws.{idle_join}
pub use Rattle.lite_base.specs.Laws.FutureLaws.{polled_laws, polled_one}
pub use Rattle.lite_base.specs.FutureLaws.{PolledByCalls}
pub use Rattle.std.proofs.Common.{ap, append-nil, append_assoc, arith, length-append, refl, rules, subst, sym, ◌∙◌}
pub use Rattle.std.proofs.lemmas.Grind.{common_steps}
pub use Rattle.std.specs.Io.Slices.{io_slices_bytes}
pub use Rattle.std.specs.IoError.{error_kind}
pub use Rattle.std.specs.List.{filter}
pub use Rattle.std.specs.declared.io.Error.{Error}
pub use Rattle.std.specs.declared.io.ErrorKind.TheVariants.{WriteZero}
