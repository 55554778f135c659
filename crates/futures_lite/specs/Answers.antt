-- Lists of answers: what polls answer, and what is said of whole lists of it.
pub use Rattle.futures.specs.declared.task.Poll.{Poll}
pub use Rattle.futures.specs.declared.task.Poll.TheVariants.{Ready, Pending}
pub use Rattle.lite_base.specs.Answers.{Answer, item, end, items, strip, Comparable, ComparableBy, until_end, Endless, before_end, Waiting, Gives, UpToValue}
pub use Rattle.lite_base.specs.Armed.{EndsPending, pends_last}
pub use Rattle.lite_base.specs.Calm.{NoPending, waits}
pub use Rattle.lite_base.specs.Ranks.{all_ok}
pub use Rattle.lite_laws.specs.Recorded.{Recorded}
pub use Rattle.lite_base.specs.EachItem.{items_in}
pub use Rattle.lite_views.specs.Each.{EachItem}
pub use Rattle.lite_views.specs.Lists.{Front}
