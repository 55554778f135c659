-- What two or more files of this crate take from other crates. The prelude, and a name that two modules have, are imported from where they are.
pub use Rattle.futures.specs.Task.{Keeps, Lasting}
pub use Rattle.futures.specs.declared.task.Poll.{Poll}
pub use Rattle.futures.specs.declared.task.Poll.TheVariants.{Pending, Ready}
pub use Rattle.lite_base.specs.Alike.{AlikeBy, Either, OptionBy, SameAnswer, SameItem, Sameness}
pub use Rattle.lite_base.specs.Answers.{Answer, ComparableBy, Endless, Gives, Waiting, before_end, end, item, items, strip}
pub use Rattle.lite_base.specs.Calling.{Accepts, AgreeFrom, AgreeKeeping, Calls, Keeping, MakesAlways}
pub use Rattle.lite_base.specs.Calm.{CalmLaws, NoPending, waits}
pub use Rattle.lite_base.specs.Chain.{NextStep, Reaches}
pub use Rattle.lite_base.specs.Ranks.{Terminates, ItemRun, Below, Lowers, Counting, Ranks, count_held, ranks_of}
pub use Rattle.lite_base.specs.Spent.{handed}
pub use Rattle.lite_base.specs.Laws.Alike.{answer_items, both_items, comparable_as, comparable_nil, ends_same, same_answer}
pub use Rattle.lite_base.specs.Laws.Answers.{all_any, all_split, strip_join, endless_join, IsItem, OfItem, items_each, not_empty}
pub use Rattle.lite_base.specs.Laws.Calling.{MatchesFrom, agree_from_matches, makes_on}
pub use Rattle.lite_base.specs.Laws.Calm.{calm_both, no_pending_join}
pub use Rattle.lite_base.specs.Laws.Chain.{Reaches-back}
pub use Rattle.lite_base.specs.Laws.Ranks.{AtMost-then_below, Lowers-after, own_lowers, zeros_least}
pub use Rattle.lite_base.specs.Laws.Ranks.{Terminates-count, Terminates-map, AtMost-both, Below-after, Below-first}
pub use Rattle.lite_base.specs.Laws.Ranks.{Lowers-at_most, Lowers-below, ok_counting}
pub use Rattle.lite_base.specs.Laws.StreamLaws.{same_hint, runs_of}
pub use Rattle.lite_base.specs.Laws.Segments.{answers_given, answers_taken}
pub use Rattle.lite_base.specs.Registered.{Registered}
pub use Rattle.lite_base.specs.Runs.{Hints, NoHint, Question, Runs}
pub use Rattle.lite_base.specs.Segments.{Segment}
pub use Rattle.lite_base.specs.Steady.{SteadinessBy, SteadyLawsBy, TakesNone}
pub use Rattle.lite_base.specs.StreamLaws.{PollsOn, RunLaws, StreamLaws}
pub use Rattle.lite_stream.specs.Cutting.{Cuts}
pub use Rattle.lite_base.specs.EachItem.{AtEachItem, MayCallEach, items_in}
pub use Rattle.lite_stream.specs.Laws.Agreeing.{AgreeingOver, through_alike, through_steady_over}
pub use Rattle.lite_stream.specs.Laws.Calming.{Calming, through_calm}
pub use Rattle.lite_base.specs.Laws.EachItem.{each_along, each_asked, each_here}
pub use Rattle.lite_stream.specs.Laws.Placed.{PlacedFrom, placed_from_same}
pub use Rattle.lite_stream.specs.Laws.Through.{AlsoBefore, Entails, Following, Relating, laws_following, through_on}
pub use Rattle.lite_stream.specs.Laws.Through.{laws_unhinted, through_counting, through_runs}
pub use Rattle.lite_stream.specs.Map.{Maps}
pub use Rattle.lite_stream.specs.Through.{Relates, AdapterParts, Adapts, Through, parts_of}
pub use Rattle.lite_stream.specs.declared.map.Map.{Map}
pub use Rattle.std.proofs.Common.{ap, append-nil, append_assoc, arith, inl, inr, length-append, refl, subst, sym, ◌∙◌}
pub use Rattle.std.proofs.lemmas.Fn.{called_at}
pub use Rattle.std.proofs.lemmas.List.{length-replicate}
pub use Rattle.std.specs.Fn.{CalledAt, Mut}
pub use Rattle.std.specs.List.{AllByRecursion, FoldsTo}
pub use denote.Ref.{Bor}
