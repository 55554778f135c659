use Rattle.lite_read.specs.Uses.{goes_again}
use Rattle.lite_read.specs.Laws.ReadUntil.{stays_within}
use Rattle.lite_read.proofs.Until.{until_full}
use Rattle.lite_read.proofs.read_until.ReadUntilFutureFuture.poll.Goals as goal

pub returns-clause-ran : goal.returns-clause-ran
returns-clause-ran g c = until_full g.R.AsyncBufRead.buffer_of g.R.ReadSpec.read_laws c.drive.ensures.stepped

pub returns-clause-again : goal.returns-clause-again
returns-clause-again g c =
    let ran = (until_full g.R.AsyncBufRead.buffer_of g.R.ReadSpec.read_laws c.drive.ensures.stepped).gathered in
    let counts = g.met.R.CountedRead.counting.counts_on _ _ ran.folded.marks c.requires.0 ran.folded.came in
    goes_again c.drive.result (counts, stays_within _ _ ran.stays c.requires.1)
