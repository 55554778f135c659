use Rattle.lite_buffered.specs.Uses.{rules}
use Rattle.lite_buffered.proofs.Seeking.{to_z_offset}
use Rattle.lite_buffered.proofs.buf_reader.BufReaderAsyncSeek.poll_seek.Goals as goal

pub returns-in-Current-clause-sought : goal.returns-in-Current-clause-sought
returns-in-Current-clause-sought g c =
    rw c.in-Current.is (rw (to_z_offset c.in-Current.offset (search rules)) at c.seek_on.ensures.sought)
