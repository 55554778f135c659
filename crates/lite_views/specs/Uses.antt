-- What two or more files of this crate take from other crates. The prelude, and a name that two modules have, are imported from where they are.
pub use Rattle.futures.specs.declared.task.Poll.{Poll}
pub use Rattle.futures.specs.declared.task.Poll.TheVariants.{Pending, Ready}
pub use Rattle.futures.specs.declared.task.context.Context.{Context}
pub use Rattle.lite_base.specs.Answers.{Answer, Endless, Gives, Waiting, end, item, items, until_end}
pub use Rattle.lite_base.specs.Calling.{Accepts, Always}
pub use Rattle.lite_base.specs.Pollers.{CallAnswers, Poller}
pub use Rattle.lite_base.specs.Spent.{Finishes, handed}
pub use Rattle.lite_base.specs.Segments.{is_first}
pub use Rattle.lite_future.specs.TryZip.{TryZips}
pub use Rattle.lite_base.specs.Laws.Segments.{rows_by, to_value_last}
pub use Rattle.lite_base.specs.Runs.{Lent, Hints, Question, Runs}
pub use Rattle.lite_base.specs.StreamLaws.{StreamLaws}
pub use Rattle.lite_future.specs.declared.try_zip.TryZip.{TryZip}
pub use Rattle.lite_consume.specs.Consume.{Folds}
pub use Rattle.lite_consume.specs.Consuming.{Consumes, Decides, Fold, TakesIn, fold_of}
pub use Rattle.lite_consume.specs.Count.{counts}
pub use Rattle.lite_consume.specs.Find.{finds}
pub use Rattle.lite_consume.specs.Fold.{folds}
pub use Rattle.lite_consume.specs.Last.{lasts}
pub use Rattle.lite_consume.specs.Laws.Consuming.{consumes_steps}
pub use Rattle.lite_consume.specs.Nth.{nths}
pub use Rattle.lite_consume.specs.TryFold.{try_fold_steps}
pub use Rattle.lite_consume.specs.declared.consume.Consume.{Consume}
pub use Rattle.lite_consume.specs.declared.find.Find.{Find}
pub use Rattle.lite_consume.specs.declared.last.Last.{Last}
pub use Rattle.lite_consume.specs.declared.nth.Nth.{Nth}
pub use Rattle.lite_consume.specs.declared.try_fold.TryFold.{TryFold}
pub use Rattle.lite_gather.specs.TryCollect.{tries_collect}
pub use Rattle.lite_gather.specs.declared.refused.Refused.{Refused}
pub use Rattle.lite_gather.specs.declared.refused.TryCollectError.{TryCollectError}
pub use Rattle.lite_gather.specs.declared.try_collect.TryCollect.{TryCollect}
pub use Rattle.lite_io_base.specs.Known.{Known, Knows, ReadsKnown}
pub use Rattle.lite_io_base.specs.Laws.Known.{knows_spends, spends_bytes, spends_split}
pub use Rattle.lite_io_base.specs.Laws.Stored.{stores_kept}
pub use Rattle.lite_io_base.specs.Laws.Marks.{taken_both}
pub use Rattle.lite_io_base.specs.Marks.{ReadMark, bytes}
pub use Rattle.lite_io_base.specs.Stored.{Stored, Stores}
pub use Rattle.lite_io_base.specs.WriteMarks.{WriteMark, bytes_taken}
pub use Rattle.lite_merge.specs.Merge.{MergeRow, MergeRows}
pub use Rattle.lite_merge.specs.Zip.{Pairs, pendings}
pub use Rattle.lite_read.specs.Pieces.{Cut, CutsPiece}
pub use Rattle.lite_read.specs.ReadFold.{AnswerMarks, ReadFold}
pub use Rattle.lite_read.specs.ReadToEnd.{appends}
pub use Rattle.lite_read.specs.Texts.{Reading, in_text}
pub use Rattle.lite_reshape.specs.Chain.{Joins, is_done, second_after}
pub use Rattle.lite_reshape.specs.Expanding.{Expands}
pub use Rattle.lite_reshape.specs.Flatten.{Flat}
pub use Rattle.lite_reshape.specs.Laws.Leaving.{leaves_steps}
pub use Rattle.lite_reshape.specs.Leaving.{LeavesOut}
pub use Rattle.lite_reshape.specs.Then.{HandsOut}
pub use Rattle.lite_reshape.specs.Ended.{Turn}
pub use Rattle.lite_reshape.specs.Ended.Turn.{First, Second}
pub use Rattle.lite_source.specs.Always.{Unchanging}
pub use Rattle.lite_source.specs.Iter.{Iterates}
pub use Rattle.lite_source.specs.Script.{GivesScript}
pub use Rattle.lite_source.specs.declared.iter.Iter.{Iter}
pub use Rattle.lite_stream.specs.Cutting.{Cuts}
pub use Rattle.lite_base.specs.EachItem.{items_in}
pub use Rattle.lite_stream.specs.Fuse.{AllEnds, FusesOn}
pub use Rattle.lite_stream.specs.Pointwise.{Exchanges, Replaces}
pub use Rattle.lite_stream.specs.Take.{is_none_left, left_after}
pub use Rattle.lite_stream.specs.declared.fuse.Fuse.{Fuse}
pub use Rattle.rand_core.specs.Stream.{Stream}
pub use Rattle.std.proofs.Common.{ap, append-nil, append_assoc, arith, drop, inl, inr, length, replicate, subst, suc, sym, take, zero, ◌∙◌}
pub use Rattle.std.proofs.Math.Seq.{drop-append_seam, take-append_seam}
pub use Rattle.std.proofs.lemmas.List.{map-append}
pub use Rattle.std.proofs.lemmas.List.Elements.{filter-append}
pub use Rattle.std.specs.Fn.{Called, Mut}
pub use Rattle.std.specs.Iterator.{Count}
pub use Rattle.std.specs.List.{AllByRecursion, FoldsTo, cons_option, enumerate_from, filter, filter_map, prefix_len, slice_get}
pub use Rattle.std.specs.Result.{ok_prefix}
pub use Rattle.std.specs.Vec.Iter.{into_iter_items, into_iter_len, into_iter_steps}
pub use Rattle.std.specs.declared.alloc.AllocError.{AllocError}
pub use Rattle.std.specs.declared.io.Error.{Error}
pub use Rattle.std.specs.declared.vec.IntoIter.{IntoIter}
pub use denote.MutBor.{MutBor}
pub use denote.Ref.{Bor}
