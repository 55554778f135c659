-- Functions of lists that contracts of streams cite and for which std has no word; what it is that the items of a
-- stream are a list, that a future has a value, and when it returns that. A proof may open all of these.
pub use Rattle.lite_future.specs.TryZip.{try_pair}
pub use Rattle.lite_views.specs.Answering.{HasOk, HasValueAs, PickedValue, ReturnedBy, WhenLeft}
unfoldable pub use Rattle.lite_views.specs.Answering.{AtOnce, NeverReady}
pub use Rattle.lite_views.specs.Futures.{RestIfFound, behind_match}
pub use Rattle.lite_views.specs.Lists.{map_while, scan, step_from}
pub use Rattle.lite_views.specs.Trying.{OkFits, OkListsAs}
unfoldable pub use Rattle.lite_views.specs.Trying.{OkLists, OkSeen}
pub use Rattle.lite_views.specs.Unfold.{GoesOnWith, MakesValue, UnfoldsInto}
pub use Rattle.lite_views.specs.Views.{EachIs, Fits, FoundBy, ListsAs, ListsIf, OfItems, RestIs, ValueHolds, ValueIs}
unfoldable pub use Rattle.lite_views.specs.Views.{Fronts, GoesOn, HasValue, Lists, Seen, Waited}
unfoldable pub use Rattle.lite_views.specs.Answering.{LeftAs, LeftSeen}
