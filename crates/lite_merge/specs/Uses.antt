-- What two or more files of this crate take from other crates. The prelude, and a name that two modules have, are imported from where they are.
pub use Rattle.futures.specs.Task.{Keeps, Lasting}
pub use Rattle.futures.specs.declared.task.Poll.{Poll}
pub use Rattle.futures.specs.declared.task.Poll.TheVariants.{Pending, Ready}
pub use Rattle.lite_base.specs.Alike.{Pairwise, SameHeld, Sameness}
pub use Rattle.lite_base.specs.Answers.{Answer, Endless, before_end, end, item, items}
pub use Rattle.lite_base.specs.Calm.{CalmLaws, NoPending, waits}
pub use Rattle.lite_base.specs.Laws.Calm.{calm_both, no_pending_join}
pub use Rattle.lite_base.specs.Laws.Answers.{endless_join}
pub use Rattle.lite_base.specs.Laws.Ranks.{Lowers-at_most, ok_counting}
pub use Rattle.lite_base.specs.Laws.StreamLaws.{same_hint}
pub use Rattle.lite_base.specs.Ranks.{all_ok, AtMost, Lowers, Counting, Ranks, held_rank, ranks_of}
pub use Rattle.lite_base.specs.Segments.{Paces, left_behind}
pub use Rattle.lite_base.specs.Registered.{Registered}
pub use Rattle.lite_base.specs.Runs.{Hints, NoHint, Runs}
pub use Rattle.lite_base.specs.Steady.{SteadyLawsBy}
pub use Rattle.lite_base.specs.StreamLaws.{PollsOn, StreamLaws}
pub use Rattle.lite_stream.specs.Fuse.{AllEnds, Fuses}
pub use Rattle.lite_stream.specs.Laws.Calming.{through_calm}
pub use Rattle.lite_stream.specs.Laws.Through.{Relating, laws_capped, through_counting, through_on}
pub use Rattle.lite_stream.specs.Through.{Relates, AdapterParts, Through, parts_of}
pub use Rattle.lite_stream.specs.declared.fuse.Fuse.{Fuse}
pub use Rattle.rand_core.specs.Stream.{Stream}
pub use Rattle.std.proofs.Common.{ap, append_assoc, arith, inl, inr, length-append, refl, sym, ◌∙◌}
pub use Rattle.std.proofs.lemmas.List.{map-append}
