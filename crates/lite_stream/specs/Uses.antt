-- What two or more files of this crate take from other crates. The prelude, and a name that two modules have, are imported from where they are.
pub use Rattle.futures.specs.declared.task.Poll.TheVariants.{Pending, Ready}
pub use Rattle.lite_base.specs.Alike.{OptionBy, Pairwise, SameAnswer, SameItem, Sameness}
pub use Rattle.lite_base.specs.Answers.{Answer, ComparableBy, before_end, end, item, items, strip, until_end}
pub use Rattle.lite_base.specs.Calling.{Accepts, AgreeFrom, AgreeKeeping, AgreeOver, Always, Answering, Calls, CallsWith, Keeping}
pub use Rattle.lite_base.specs.Calm.{waits}
pub use Rattle.lite_base.specs.EachItem.{MayCallEach, MayShowEach}
pub use Rattle.lite_base.specs.Laws.Alike.{ends_same}
pub use Rattle.lite_base.specs.Laws.Answers.{IsItem, first_item, items_each}
pub use Rattle.lite_base.specs.Laws.Calling.{MatchesFrom}
pub use Rattle.lite_base.specs.Laws.EachItem.{each_again, each_here}
pub use Rattle.lite_base.specs.Laws.Ranks.{Lowers-below, ok_counting}
pub use Rattle.lite_base.specs.Ranks.{Lowers, ranks_of}
pub use Rattle.lite_base.specs.Runs.{Hints, NoHint, Question, Runs}
pub use Rattle.lite_base.specs.StreamLaws.{PollsOn, StreamLaws}
pub use Rattle.std.proofs.Common.{ap, arith, inl, inr, refl, rules, ◌∙◌}
pub use Rattle.std.proofs.lemmas.Fn.{called_at}
pub use Rattle.std.specs.Fn.{CalledAt}
pub use Rattle.std.specs.List.{AllByRecursion}
pub use denote.Ref.{Bor}
