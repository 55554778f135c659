use Rattle.lite_write.specs.Uses.{refl, polled_one}
use Rattle.lite_write.specs.WriteVectored.{WritesVectored}
use Rattle.lite_write.proofs.write_vectored.WriteVectoredFutureFuture.poll.Goals as goal

pub returns-clause-ran : goal.returns-clause-ran
returns-clause-ran g c =
    let e = c.poll_write_vectored.ensures in
    polled_one (WritesVectored g.W.WriteSpec.writes) (record { came = e.ran; bound = e.bound; stays = refl })
