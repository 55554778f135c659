use Rattle.lite_halves.specs.Uses.{reads_among}
use Rattle.lite_halves.specs.Journal.{JournalReads}
use Rattle.lite_halves.proofs.journal.polls.JournalAsyncRead.poll_read_vectored.Goals as goal

pub returns-clause-ran : goal.returns-clause-ran
returns-clause-ran g c =
    let room = c.first_room.ensures in
    reads_among (JournalReads g.T.ReadSpec.reads g.T.WriteSpec.writes) _ _ _ _ c.args.bufs.now _ c.poll_read.auto.buf
    room.within room.some c.poll_read.ensures.bound c.poll_read.ensures.ran
