use Rattle.lite_write.specs.Uses.{refl, polled_one}
use Rattle.lite_write.specs.Write.{Writes}
use Rattle.lite_write.proofs.write.WriteFutureFuture.poll.Goals as goal

pub returns-clause-ran : goal.returns-clause-ran
returns-clause-ran g c =
    let e = c.poll_write.ensures in
    polled_one (Writes g.W.WriteSpec.writes) (record { came = e.ran; bound = e.bound; stays = refl })
