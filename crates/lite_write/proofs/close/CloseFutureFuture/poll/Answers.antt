use Rattle.lite_write.specs.Uses.{refl, polled_one}
use Rattle.lite_write.specs.Close.{Closes}
use Rattle.lite_write.proofs.close.CloseFutureFuture.poll.Goals as goal

pub returns-clause-ran : goal.returns-clause-ran
returns-clause-ran g c =
    polled_one (Closes g.W.WriteSpec.writes) (record { came = c.poll_close.ensures.ran; stays = refl })
