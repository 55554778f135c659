use Rattle.lite_read.specs.Uses.{refl, polled_one}
use Rattle.lite_read.specs.Seek.{Seeks}
use Rattle.lite_read.proofs.seek.SeekFutureFuture.poll.Goals as goal

pub returns-clause-ran : goal.returns-clause-ran
returns-clause-ran g c =
    polled_one (Seeks g.S.AsyncSeek.seeks) (record { sought = c.poll_seek.ensures.sought; stays = refl })
