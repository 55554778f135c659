-- Calls of closures: what one is asked and answers, and what a source's items have to meet before a poll may be made.
pub use Rattle.lite_base.specs.Calling.{Calls, CallsWith, Always, Accepts, Answered, Agree, AgreeBy, AgreeFrom}
pub use Rattle.lite_base.specs.Calling.{AgreeKeeping, AgreeOver, Answering, Keeping, Kin, KinAnswers}
pub use Rattle.lite_base.specs.EachItem.{AtEachItem, MayCallEach, MayShowEach, MayCallEachWith}
