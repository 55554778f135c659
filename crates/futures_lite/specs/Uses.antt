-- What two or more files of this crate take from other crates. The prelude, and a name that two modules have, are imported from where they are.
-- A word that programs can import from nowhere else is here too, whoever uses it in the facade.
pub use Rattle.futures.specs.declared.task.context.Context.{Context}
pub use Rattle.lite_base.specs.Calling.{Calls}
pub use Rattle.lite_consume.specs.Fold.{CallsBoth}
pub use Rattle.lite_gather.specs.Gathering.{LacksRoom}
pub use Rattle.lite_merge.specs.Cycle.{CycleOf}
pub use Rattle.lite_merge.specs.Race.{RacesOn}
pub use Rattle.lite_read.specs.Laws.Texts.{text_any}
pub use Rattle.lite_read.specs.Lines.{GivesLines, lines_over}
pub use Rattle.lite_base.specs.FutureLaws.{PolledByCalls}
pub use Rattle.lite_read.specs.Read.{Reads}
pub use Rattle.lite_read.specs.ReadLine.{LineHolds, ReadsLine, ReadsLineByRoom, line_over}
pub use Rattle.lite_read.specs.ReadToEnd.{ReadsToEndByRoom}
pub use Rattle.lite_read.specs.ReadToString.{ReadsStringByRoom, ReadsToString, StringHolds, all_over, text_front}
pub use Rattle.lite_read.specs.ReadUntil.{ReadsUntil, ReadsUntilByRoom}
pub use Rattle.lite_read.specs.Split.{Splits, split_over}
pub use Rattle.lite_reshape.specs.Cloned.{cloned_parts}
pub use Rattle.lite_reshape.specs.Filter.{filter_parts}
pub use Rattle.lite_reshape.specs.FilterMap.{filter_map_parts}
pub use Rattle.lite_reshape.specs.Inner.{flatten_parts}
pub use Rattle.lite_reshape.specs.SkipWhile.{skip_while_parts}
pub use Rattle.lite_reshape.specs.Then.{then_parts}
pub use Rattle.lite_source.specs.OnceFuture.{GivesFuture}
pub use Rattle.lite_source.specs.TryUnfold.{TryUnfoldsBy, try_item_of, try_seed_of}
pub use Rattle.lite_source.specs.Unfold.{UnfoldsBy, item_of, seed_of}
pub use Rattle.lite_source.specs.Unfolding.{Holding}
pub use Rattle.lite_stream.specs.Inspect.{Inspects}
pub use Rattle.lite_stream.specs.Map.{map_parts}
pub use Rattle.lite_stream.specs.MapWhile.{map_while_parts}
pub use Rattle.lite_stream.specs.Scan.{scan_parts}
pub use Rattle.lite_stream.specs.TakeWhile.{take_while_parts}
pub use Rattle.lite_views.proofs.Consume.{only_made, value_made}
pub use Rattle.lite_views.proofs.Futures.{gathered_left, when_less}
pub use Rattle.lite_views.proofs.Pieces.{pieces_listed}
pub use Rattle.lite_views.proofs.Texts.{text_left}
pub use Rattle.lite_views.proofs.Views.{lent_lists, listed_through, seen}
pub use Rattle.lite_views.specs.Acting.{ActsAsOnState}
unfoldable pub use Rattle.lite_views.specs.Answering.{AtOnce, NeverReady}
pub use Rattle.lite_views.specs.Futures.{CountRuns, FindRuns, FoldRuns, LastRuns, NthRuns, TryFoldRuns, TryZipRuns, ZipRuns}
pub use Rattle.lite_views.specs.Iterators.{GivesAll}
pub use Rattle.lite_views.specs.Trying.{AllTaken, TriesCollect, first_error, try_fold}
pub use Rattle.lite_views.specs.Views.{FoundBy, FrontsAs, ListsAs, ValueHolds, ValueIs}
unfoldable pub use Rattle.lite_views.specs.Views.{Fronts, HasValue, Seen, Waited}
pub use Rattle.lite_views.specs.Answering.{WhenLeft}
unfoldable pub use Rattle.lite_views.specs.Answering.{LeftAs}
pub use Rattle.lite_write.specs.Close.{Closes}
pub use Rattle.lite_write.specs.Copy.{CopyRuns, source_of}
pub use Rattle.lite_write.specs.Flush.{Flushes}
pub use Rattle.lite_write.specs.Write.{Writes}
pub use Rattle.std.proofs.Common.{ap, refl, subst, ◌∙◌}
pub use Rattle.std.specs.Fn.{Called, CalledAt}
pub use Rattle.std.specs.Iterator.{at_most}
pub use Rattle.std.specs.declared.alloc.AllocError.{AllocError}
pub use denote.MutBor.{MutBor}
