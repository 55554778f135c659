-- What two or more files of this crate take from other crates. The prelude, and a name that two modules have, are imported from where they are.
pub use Rattle.futures.specs.Poll.{IfReady}
pub use Rattle.futures.specs.Task.{Keeps, Lasting}
pub use Rattle.futures.specs.declared.task.Poll.{Poll}
pub use Rattle.futures.specs.declared.task.Poll.TheVariants.{Pending, Ready}
pub use Rattle.lite_base.specs.Answers.{Comparable}
pub use Rattle.lite_base.specs.Ranks.{Terminates, AtMost, Below, Ranks, number_ranks, ranks_of}
pub use Rattle.lite_base.specs.Runs.{Lent, Runs}
pub use Rattle.lite_base.specs.Registered.{Registered}
pub use Rattle.std.proofs.Common.{ap, append-nil, arith, inl, length-append, length-drop, replicate, subst, sym, take-append-drop, take_all, ◌∙◌}
pub use Rattle.std.proofs.lemmas.Grind.{common_steps}
pub use Rattle.std.proofs.lemmas.List.{length-replicate}
pub use Rattle.std.specs.Borrow.{RattleType}
pub use Rattle.std.specs.Io.Slices.{io_slice_bytes, io_slice_mut_bytes, io_slices_bytes}
pub use Rattle.std.specs.IoError.{error_kind}
pub use Rattle.std.specs.declared.dyn_box.DynBox.{DynBox}
pub use Rattle.std.specs.declared.io.Error.{Error}
pub use Rattle.std.specs.declared.io.ErrorKind.{ErrorKind}
pub use Rattle.std.specs.declared.io.slices.IoSlice.{IoSlice}
pub use Rattle.std.specs.declared.io.slices.IoSliceMut.{IoSliceMut}
pub use Rattle.std.specs.declared.io.traits.SeekFrom.{SeekFrom}
pub use denote.MutBor.{MutBor}
