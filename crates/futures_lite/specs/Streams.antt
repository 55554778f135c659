-- Streams: the type of each adapter of the library, as specs see it, and what its runs are.
pub use Rattle.lite_source.specs.Iter.{AlwaysNext, Iterates, NeverRaised, Nexts}
pub use Rattle.lite_source.specs.Script.{GivesScript}
pub use Rattle.lite_source.specs.Unfolding.{BothHave, HoldingsBy, PartOf, UnfoldAlike}
pub use Rattle.lite_source.specs.declared.iter.Iter.{Iter}
pub use Rattle.lite_stream.specs.Copied.{Referred}
pub use Rattle.lite_stream.specs.Enumerate.{Enumerates, Numbers}
pub use Rattle.lite_stream.specs.Fuse.{Fuses}
pub use Rattle.lite_stream.specs.Map.{Maps}
pub use Rattle.lite_stream.specs.MapWhile.{MapsWhile}
pub use Rattle.lite_stream.specs.Scan.{Scans}
pub use Rattle.lite_stream.specs.Take.{Takes, is_none_left, left_after}
pub use Rattle.lite_stream.specs.TakeWhile.{TakesWhile}
pub use Rattle.lite_stream.specs.declared.enumerate.Enumerate.{Enumerate}
pub use Rattle.lite_stream.specs.declared.fuse.Fuse.{Fuse}
pub use Rattle.lite_stream.specs.declared.map.Map.{Map}
pub use Rattle.lite_stream.specs.declared.map_while.MapWhile.{MapWhile}
pub use Rattle.lite_stream.specs.declared.scan.Scan.{Scan}
pub use Rattle.lite_stream.specs.declared.take.Take.{Take}
pub use Rattle.lite_stream.specs.declared.take_while.TakeWhile.{TakeWhile}
pub use Rattle.lite_reshape.specs.Filter.{Filters}
pub use Rattle.lite_reshape.specs.FilterMap.{FilterMaps}
pub use Rattle.lite_reshape.specs.Skip.{Skips, SkipsFirst}
pub use Rattle.lite_reshape.specs.SkipWhile.{SkipsUntil, SkipsWhile}
pub use Rattle.lite_reshape.specs.StepBy.{StepsBy, StepsOn}
pub use Rattle.lite_reshape.specs.declared.filter.Filter.{Filter}
pub use Rattle.lite_reshape.specs.declared.filter_map.FilterMap.{FilterMap}
pub use Rattle.lite_reshape.specs.declared.skip.Skip.{Skip}
pub use Rattle.lite_reshape.specs.declared.skip_while.SkipWhile.{SkipWhile}
pub use Rattle.lite_reshape.specs.declared.step_by.StepBy.{StepBy}
pub use Rattle.lite_reshape.specs.Chain.{Chains}
pub use Rattle.lite_reshape.specs.Cloned.{AlikeCloned, ClonedFrom, ClonesAll, ClonesUnrefused, EqualClones}
pub use Rattle.lite_base.specs.Calling.{MakesAlways}
pub use Rattle.lite_base.specs.Laws.Calling.{makes_on}
pub use Rattle.lite_reshape.specs.FlatMap.{FlatMaps}
pub use Rattle.lite_reshape.specs.Flatten.{Flattens}
pub use Rattle.lite_reshape.specs.Then.{Thens}
pub use Rattle.lite_reshape.specs.declared.chain.Chain.{Chain}
pub use Rattle.lite_reshape.specs.declared.cloned.Cloned.{Cloned}
pub use Rattle.lite_reshape.specs.declared.flat_map.FlatMap.{FlatMap}
pub use Rattle.lite_reshape.specs.declared.flatten.Flatten.{Flatten}
pub use Rattle.lite_reshape.specs.declared.then.Then.{Then}
pub use Rattle.lite_merge.specs.Budgeted.{Budgets, PacedRegisters, RegistersPaused}
pub use Rattle.lite_merge.specs.Or.{Ors}
pub use Rattle.lite_merge.specs.Race.{Races}
pub use Rattle.lite_merge.specs.Zip.{Zips}
pub use Rattle.lite_merge.specs.declared.budgeted.Budgeted.{Budgeted}
pub use Rattle.lite_merge.specs.declared.zip.Zip.{Zip}
