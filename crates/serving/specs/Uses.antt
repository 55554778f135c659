-- What two or more files of this crate take from other crates. The prelude, and a name that two modules have, are imported from where they are.
pub use Rattle.lent_frames.specs.Cutting.{NoneEmpty}
pub use Rattle.lent_frames.specs.Lending.{Advances, AdvancesInHand, Lending, StandsIn, kept, lent_body, untaken}
pub use Rattle.framed.specs.Services.{LastWords, ServiceStep}
pub use Rattle.lent_frames.specs.declared.frames_error.FramesError.{FramesError}
pub use Rattle.futures.specs.declared.task.Poll.{Poll}
pub use Rattle.futures.specs.declared.task.Poll.TheVariants.{Pending, Ready}
pub use Rattle.lite_base.specs.Laws.Ranks.{AtMost-both, Below-first}
pub use Rattle.lite_base.specs.Ranks.{AtMost, Below, Ranks}
pub use Rattle.lite_base.specs.Runs.{Runs}
pub use Rattle.lite_io_base.specs.Counting.{ReadCounting}
pub use Rattle.lite_io_base.specs.Marks.{ReadMark, bytes}
pub use Rattle.lite_io_base.specs.Runs.{MarkLaws}
pub use Rattle.lite_io_base.specs.WriteMarks.{WriteMark, bytes_taken}
pub use Rattle.lite_write.specs.Handed.{WritesAndFlushes}
pub use Rattle.std.proofs.Common.{ap, append-nil, arith, inl, inr, length-append, length-take-le, refl, rules, subst, sym, ◌∙◌}
pub use Rattle.std.specs.List.{FoldsTo}
pub use Rattle.std.specs.declared.io.ErrorKind.{ErrorKind}
