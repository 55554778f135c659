-- What two or more files of this crate take from other crates. The prelude, and a name that two modules have, are imported from where they are.
pub use Rattle.futures.specs.declared.task.Poll.{Poll}
pub use Rattle.futures.specs.declared.task.Poll.TheVariants.{Pending, Ready}
pub use Rattle.lite_base.proofs.Waited.{WaitedFor, done}
pub use Rattle.lite_base.specs.Answers.{Answer, Gives, end, item, strip}
pub use Rattle.lite_base.specs.Spent.{AtEachOk}
pub use Rattle.lite_base.specs.FutureLaws.{FutureLaws}
pub use Rattle.lite_base.specs.Laws.Segments.{segment_front}
pub use Rattle.lite_base.specs.Runs.{Lent, Runs}
pub use Rattle.lite_buffered.specs.BufReader.{bytes_ahead, reader_capacity}
pub use Rattle.lite_buffered.specs.BufWriter.{Buffers, unwritten, writer_inner}
pub use Rattle.lite_buffered.specs.Chain.{ChainsReaders, first_of, has_ended, second_of}
pub use Rattle.lite_buffered.specs.Take.{LimitEnds, ReadsWithin, WithinLimit, take_inner}
pub use Rattle.lite_buffered.specs.declared.buf_writer.BufWriter.{BufWriter}
pub use Rattle.lite_buffered.specs.declared.chain.Chain.{Chain}
pub use Rattle.lite_buffered.specs.declared.take.Take.{Take}
pub use Rattle.lite_consume.specs.Consume.{Folds}
pub use Rattle.lite_consume.specs.Consuming.{Consumes, Decides, Fold, fold_of}
pub use Rattle.lite_consume.specs.Laws.Consuming.{consumes_steps}
pub use Rattle.lite_consume.specs.declared.consume.Consume.{Consume}
pub use Rattle.lite_gather.specs.Gathering.{LacksRoom}
pub use Rattle.lite_gather.specs.TryCollect.{tries_collect}
pub use Rattle.lite_gather.specs.declared.refused.TryCollectError.{TryCollectError}
pub use Rattle.lite_gather.specs.declared.refused.TryCollectError.TheVariants.{Memory, Source}
pub use Rattle.lite_io_base.specs.Laws.Marks.{taken_both}
pub use Rattle.lite_io_base.specs.Marks.{ReadMark, bytes, read_marks}
pub use Rattle.lite_io_base.specs.Runs.{MarkLaws}
pub use Rattle.lite_io_base.specs.Steady.{NoPendingRead, strip_marks}
pub use Rattle.lite_io_base.specs.WriteMarks.{TakesFront, WriteMark, bytes_taken}
pub use Rattle.lite_merge.specs.declared.or.Or.{Or}
pub use Rattle.lite_merge.specs.declared.race.Race.{Race}
pub use Rattle.lite_io_base.specs.Steady.{SameByKind}
pub use Rattle.lite_io_base.specs.Runs.{without_return}
pub use Rattle.lite_read.specs.Lines.{line_fold}
pub use Rattle.lite_read.specs.Pieces.{Cut}
pub use Rattle.lite_read.specs.ReadToEnd.{Appended, next_read}
pub use Rattle.lite_read.specs.Segments.{PieceSegments}
pub use Rattle.lite_read.specs.Told.{FillsUp, PieceTold, PieceWithin, VectorLacksRoom}
pub use Rattle.lite_io_base.specs.Steady.{ToldStripped}
pub use Rattle.lite_stream.specs.declared.fuse.Fuse.{Fuse}
pub use Rattle.lite_write.specs.Copy.{CopyRuns, NothingCopied, source_of}
pub use Rattle.lite_write.specs.Handed.{FlushedUp, HandedUp, OnlyWrites}
pub use Rattle.lite_write.specs.Laws.Copy.{told_both}
pub use Rattle.lite_write.specs.MarkLists.{BytesAlone, bytes_told}
pub use Rattle.lite_write.specs.declared.copy.CopyFuture.{CopyFuture}
pub use Rattle.std.proofs.Common.{Global, Option, ap, append-nil, append_assoc, arith, drop, inl, inr, length-append}
pub use Rattle.std.proofs.Common.{refl, rules, subst, sym, take, take-append-drop, ◌∙◌}
pub use Rattle.std.proofs.lemmas.List.{map-append}
pub use Rattle.std.specs.IoError.{error_kind}
pub use Rattle.std.specs.List.{FoldsTo}
pub use Rattle.std.specs.declared.io.Error.{Error}
pub use Rattle.std.specs.declared.io.ErrorKind.{ErrorKind}
pub use Rattle.std.specs.declared.io.ErrorKind.TheVariants.{OutOfMemory}
pub use Rattle.std.specs.declared.string.String.{String}
pub use denote.MutBor.{MutBor}
