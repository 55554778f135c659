-- What two or more files of this crate take from other crates. The prelude, and a name that two modules have, are imported from where they are.
pub use Rattle.futures.specs.declared.task.Poll.{Poll}
pub use Rattle.futures.specs.declared.task.Poll.TheVariants.{Pending, Ready}
pub use Rattle.lite_base.specs.Alike.{Alike, OptionBy, SameAnswer, SameItem, Sameness}
pub use Rattle.lite_base.specs.Answers.{Answer, Comparable, ComparableBy, Waiting, before_end, end, item, strip}
pub use Rattle.lite_base.specs.Calling.{AgreeFrom, Calls, MakesAlways}
pub use Rattle.lite_base.specs.Calm.{CalmLaws, NoPending}
pub use Rattle.lite_base.specs.Pollers.{AlwaysObeys, CallAnswers, NeverPends, Poller}
pub use Rattle.lite_base.specs.Spent.{Finishes, handed, Spends}
pub use Rattle.lite_base.specs.FutureLaws.{FutureLaws, FutureRunLaws}
pub use Rattle.lite_base.specs.Laws.Alike.{alike_agrees}
pub use Rattle.lite_base.specs.Laws.Answers.{all_append}
pub use Rattle.lite_base.specs.Laws.Calling.{folds_follow, makes_on}
pub use Rattle.lite_base.specs.Laws.Calm.{calm_both, no_pending_join}
pub use Rattle.lite_base.specs.Laws.Ranks.{Below-one, Lowers-at_most, Lowers-below, ok_counting, number_counting}
pub use Rattle.lite_base.specs.Laws.Spent.{handed_gives, handed_no_pending, handed_waits}
pub use Rattle.lite_base.specs.Laws.StreamLaws.{same_hint, laws_of}
pub use Rattle.lite_base.specs.Laws.Steady.{steady_always}
pub use Rattle.lite_base.specs.Ranks.{Lowers, Counting, Ranks, number_ranks}
pub use Rattle.lite_base.specs.Runs.{NoHint, Question, Runs}
pub use Rattle.lite_base.specs.Steady.{FutureSteadyLawsBy, Steadiness, SteadinessBy, SteadyLaws, SteadyLawsBy}
pub use Rattle.lite_base.specs.StreamLaws.{RunLaws, StreamLaws}
pub use Rattle.std.proofs.Common.{ap, append-nil, arith, inl, inr, refl, subst, sym, ℕ, ◌∙◌}
pub use Rattle.std.specs.Fn.{Called, Mut}
pub use Rattle.std.specs.Iterator.{Count, IsFinite, MakesProgress, UpTo, size}
pub use Rattle.std.specs.List.{AllByRecursion, AllZip, FoldsTo}
pub use Rattle.std.specs.Option.{option_len}
pub use Rattle.std.specs.VecDeque.Iter.{deque_iter_rest}
pub use denote.Param.Always.{always_mut, mut_next}
