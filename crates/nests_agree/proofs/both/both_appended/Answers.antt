use Rattle.std.proofs.Common.{refl}
use Rattle.nests_agree.proofs.both.both_appended.Goals as goal

pub returns : goal.returns
returns g c =
    let both = c.run_both.ensures.agree in
    record {
      answers = both.0;
      more_answers = both.1;
      appended = (both.2, both.3, refl, refl);
      agreed = (both.4, both.6, both.7);
      many = (both.5, both.8);
    }
