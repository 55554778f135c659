use Rattle.lite_io_base.specs.Laws.Runs.{reads_among}
use Rattle.lite_buffered.specs.Take.{ReadsWithin}
use Rattle.lite_buffered.proofs.take.TakeAsyncRead.poll_read_vectored.Goals as goal

pub returns-clause-ran : goal.returns-clause-ran
returns-clause-ran g c =
    let room = c.first_room.ensures in
    reads_among (ReadsWithin g.R.ReadSpec.reads) _ _ _ _ c.args.bufs.now _ c.poll_read.auto.buf room.within room.some
    c.poll_read.ensures.bound c.poll_read.ensures.ran
