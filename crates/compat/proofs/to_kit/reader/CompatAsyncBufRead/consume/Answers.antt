use Rattle.compat.specs.Laws.ToKit.{gave_bytes}
use Rattle.compat.proofs.to_kit.reader.CompatAsyncBufRead.consume.Goals as goal

pub returns-clause-bytes : goal.returns-clause-bytes
returns-clause-bytes g c = gave_bytes g.R.ReadSpec.reads _ _ _ c.consume.ensures.ran
