use Rattle.std.specs.Prelude.{◌≡◌, Ok}
use Rattle.lite_write.specs.Uses.{refl, rules, Ready}
use Rattle.lite_write.proofs.Copying.{writer_is_flushed}
use Rattle.lite_write.proofs.copy.CopyFuture.flush.Goals as goal

pub returns-in-Ready-Ok-clause-ran : goal.returns-in-Ready-Ok-clause-ran
returns-in-Ready-Ok-clause-ran g c =
    let is : c.poll_flush.result ≡ Ready (Ok tt) = search rules in
    writer_is_flushed g.R.ReadSpec.reads g.W.WriteSpec.writes g.R.ReadSpec.read_laws g.W.WriteSpec.write_laws c.args.self.now _ refl
    refl refl c.requires.phase
    (rw is at c.poll_flush.ensures.ran)
