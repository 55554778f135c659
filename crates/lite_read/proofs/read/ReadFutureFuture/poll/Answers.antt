use Rattle.lite_read.specs.Uses.{refl, polled_one}
use Rattle.lite_read.specs.Read.{Reads}
use Rattle.lite_read.proofs.read.ReadFutureFuture.poll.Goals as goal

pub returns-clause-ran : goal.returns-clause-ran
returns-clause-ran g c =
    let e = c.poll_read.ensures in
    polled_one (Reads g.R.ReadSpec.reads) (record {
      came = e.ran;
      bound = e.bound;
      room = c.poll_read.auto.buf;
      stays = refl;
    })
