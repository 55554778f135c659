use Rattle.lite_read.specs.Uses.{◌∙◌, refl, sym, polled_one}
use Rattle.lite_read.specs.ReadVectored.{ReadsVectored}
use Rattle.lite_read.proofs.read_vectored.ReadVectoredFutureFuture.poll.Goals as goal

pub returns-clause-ran : goal.returns-clause-ran
returns-clause-ran g c =
    let e = c.poll_read_vectored-answer.ensures in
    polled_one (ReadsVectored g.R.ReadSpec.reads)
    (record {
      bufs = c.in-Some.bufs;
      after = c.poll_read_vectored-answer.new.bufs;
      held = sym c.take.ensures.value ∙ c.in-Some.is;
      came = e.ran;
      bound = e.bound;
      count = c.poll_read_vectored-answer.auto.bufs;
      stays = refl;
    })
