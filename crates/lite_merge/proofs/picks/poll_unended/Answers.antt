use Rattle.std.specs.Prelude.{◌≡◌, [], ◌∷◌}
use Rattle.lite_merge.specs.Uses.{refl, end}
use Rattle.std.proofs.Common.{rules}
use Rattle.lite_merge.proofs.picks.poll_unended.Goals as goal

pub returns-in-None-clause-ran : goal.returns-in-None-clause-ran
returns-in-None-clause-ran g c =
    let e : c.poll_next.result ≡ end = search rules in
    record {
      ins = end ∷ [];
      came = rw e at c.poll_next.ensures.ran;
      related = rw c.if-has_ended.false ([], [], refl, refl, refl, tt);
    }
