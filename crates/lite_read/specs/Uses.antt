-- What two or more files of this crate take from other crates. The prelude, and a name that two modules have, are imported from where they are.
pub use Rattle.futures.specs.Poll.{IfReady, OnPending}
pub use Rattle.futures.specs.Task.{Keeps}
pub use Rattle.futures.specs.declared.task.Poll.{Poll}
pub use Rattle.futures.specs.declared.task.Poll.TheVariants.{Pending, Ready}
pub use Rattle.lite_base.specs.Alike.{OptionBy, Sameness}
pub use Rattle.lite_base.specs.Answers.{Answer, Comparable, ComparableBy, Waiting, items, strip}
pub use Rattle.lite_base.specs.Calm.{CalmLaws}
pub use Rattle.lite_base.specs.Chain.{OneStep, Reaches}
pub use Rattle.lite_base.specs.FutureLaws.{FutureLaws, FutureRunLaws, PolledByCalls}
pub use Rattle.lite_base.specs.Laws.Answers.{up_to_once, up_to_one}
pub use Rattle.lite_base.specs.Laws.Chain.{steps_answer}
pub use Rattle.lite_base.specs.Laws.FutureLaws.{future_laws_of, goes_again, idle_join, polled_laws, polled_one}
pub use Rattle.lite_base.specs.Laws.Ranks.{Terminates-map}
pub use Rattle.lite_base.specs.Laws.Segments.{segment_alone, segments_one}
pub use Rattle.lite_base.specs.Laws.StreamLaws.{laws_of}
pub use Rattle.lite_base.specs.Ranks.{Below, Lowers, Ranks, ranks_of}
pub use Rattle.lite_base.specs.Registered.{Registered}
pub use Rattle.lite_base.specs.Runs.{NoHint, Runs}
pub use Rattle.lite_base.specs.Segments.{Segments}
pub use Rattle.lite_base.specs.Steady.{FutureSteadyLawsBy, SteadyLawsBy}
pub use Rattle.lite_base.specs.StreamLaws.{RunLaws, StreamLaws}
pub use Rattle.lite_io_base.specs.Counting.{ReadCounting, Falls}
pub use Rattle.lite_io_base.specs.Laws.Counting.{GivenRun}
pub use Rattle.lite_io_base.specs.Laws.Lent.{lent_still}
pub use Rattle.lite_io_base.specs.Marks.{ReadMark, bytes, fill_marks, filled_marks, given_count, moved_marks}
pub use Rattle.lite_io_base.specs.Runs.{LendsFront, MarkLaws, without_return}
pub use Rattle.lite_io_base.specs.Steady.{CalmReadLaws, NoPendingRead, SameByKind, SameOr, SteadyReadLaws, strip_marks}
pub use Rattle.memchr.specs.Find.{IsFirstByte, is_byte}
pub use Rattle.std.proofs.Common.{All, Global, add-one, ap, append-nil, append_assoc, arith, cond, eq-eqb, eqb-true}
pub use Rattle.std.proofs.Common.{false, get_or, inl, inr, le_refl, leb, length-append, length-take-le, not, refl}
pub use Rattle.std.proofs.Common.{rules, subst, suc, sym, zero, ◌∙◌}
pub use Rattle.std.proofs.lemmas.Bool.{le-leb, lt-leb, lt-ltb}
pub use Rattle.std.proofs.lemmas.Grind.{common_steps}
pub use Rattle.std.proofs.lemmas.List.{length-drop, length-take, map-append, take-append-le}
pub use Rattle.std.proofs.lemmas.List.Folds.{list_all-append}
pub use Rattle.std.proofs.lemmas.Simd.{length-chunk, zip2_splat, zip2_splat_left}
pub use Rattle.std.specs.Borrow.{Bor, MutBor}
pub use Rattle.std.specs.Char.{is_ascii}
pub use Rattle.std.specs.IoError.{error_kind}
pub use Rattle.std.specs.List.{AllByRecursion, FoldsTo, before_first, list_all, position_or_len, prefix_len}
pub use Rattle.std.specs.Vec.{with_items}
pub use Rattle.std.specs.declared.io.Error.{Error}
pub use Rattle.std.specs.declared.io.ErrorKind.{ErrorKind}
pub use Rattle.std.specs.declared.io.ErrorKind.TheVariants.{Interrupted, OutOfMemory, UnexpectedEof}
pub use Rattle.std.specs.declared.string.String.{String}
pub use Rattle.std.specs.declared.vec.Vec.{Vec}
