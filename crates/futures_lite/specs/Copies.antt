-- Copies from a reader to a writer: the bytes that were told and taken, and where pendings and errors stand.
pub use Rattle.lite_base.specs.Spent.{AtEachOk}
pub use Rattle.lite_write.specs.Copy.{Copied, CopyValue, RegistersIn, NothingCopied}
pub use Rattle.lite_write.specs.MarkLists.{bytes_told, waits_told, waits_taken}
pub use Rattle.lite_theorems.specs.Chained.{CopiesBoth, CopiesWhole, WritesWhole, ReadsBoth, ReadsRest, ReadsWhole}
-- what a chain tells whole is what its readers tell: `tells_both`
pub use Rattle.lite_theorems.specs.Laws.Chained
