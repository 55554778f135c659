use Rattle.compat.specs.Uses.{Ready}
use Rattle.compat.specs.Laws.ToKit.{gave_read}
use Rattle.compat.proofs.to_kit.reader.CompatAsyncRead.poll_read.Goals as goal

pub returns-in-Ready-clause-bytes : goal.returns-in-Ready-clause-bytes
returns-in-Ready-clause-bytes g c =
    gave_read g.R.ReadSpec.reads _ _ (Ready c.in-Ready.read) c.poll_read.new.buf c.in-Ready.ensures.ran
