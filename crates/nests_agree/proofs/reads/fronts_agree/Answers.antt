use Rattle.std.proofs.lemmas.Result.{IfOk-weaker}
use Rattle.nests_agree.proofs.reads.fronts_agree.Goals as goal

pub returns : goal.returns
returns g c =
    let read = c.read_both.ensures.agree in (
      read.0,
      read.1,
      read.2,
      read.3,
      IfOk-weaker c.read_both.result _ _ (λ values both. both.always (c.requires.found, tt)) read.4,
    )
