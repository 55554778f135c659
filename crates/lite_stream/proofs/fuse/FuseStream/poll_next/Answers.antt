use Rattle.std.specs.Prelude.{◌≡◌, [], ◌∷◌}
use Rattle.lite_stream.specs.Uses.{rules, refl, end}
use Rattle.lite_stream.proofs.fuse.FuseStream.poll_next.Goals as goal

pub returns-in-None-clause-ran : goal.returns-in-None-clause-ran
returns-in-None-clause-ran g c =
    let e : c.poll_next.result ≡ end = search rules in
    record {
      ins = end ∷ [];
      came = rw e at c.poll_next.ensures.ran;
      related = rw c.if-self.false ([], [], refl, refl, refl, tt);
    }
