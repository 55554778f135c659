use Rattle.lite_write.specs.Uses.{refl, polled_one}
use Rattle.lite_write.specs.Flush.{Flushes}
use Rattle.lite_write.proofs.flush.FlushFutureFuture.poll.Goals as goal

pub returns-clause-ran : goal.returns-clause-ran
returns-clause-ran g c =
    polled_one (Flushes g.W.WriteSpec.writes) (record { came = c.poll_flush.ensures.ran; stays = refl })
