-- What two or more files of this crate take from other crates. The prelude, and a name that two modules have, are imported from where they are.
pub use Rattle.futures.specs.declared.task.Poll.{Poll}
pub use Rattle.futures.specs.declared.task.Poll.TheVariants.{Pending, Ready}
pub use Rattle.lite_base.specs.Alike.{OptionBy, Optional, SameAnswer, SameHeld, SameItem, Sameness}
pub use Rattle.lite_base.specs.Answers.{Answer, Gives, item}
pub use Rattle.lite_base.specs.Calling.{Agree, AgreeFrom, AgreeKeeping, Calls, Keeping, Kin, KinAnswers}
pub use Rattle.lite_base.specs.Laws.Alike.{both_items}
pub use Rattle.lite_base.specs.Laws.Ranks.{Terminates-map}
pub use Rattle.lite_base.specs.Laws.Segments.{answers_given, answers_taken}
pub use Rattle.lite_base.specs.Runs.{Lent, Hints, Question, Runs}
pub use Rattle.lite_base.specs.Segments.{OneAnswer, Segment}
pub use Rattle.lite_base.specs.StreamLaws.{StreamLaws}
pub use Rattle.lite_base.specs.EachItem.{items_in}
pub use Rattle.std.proofs.Common.{arith, inl, inr, subst}
pub use Rattle.std.specs.Fn.{CalledAt, Mut, TakesAt}
pub use Rattle.std.specs.List.{FoldsTo}
pub use denote.MutBor.{MutBor}
