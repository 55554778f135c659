use Rattle.std.proofs.Common.{rules, refl}
use Rattle.lite_read.proofs.Refusals.{lines_ample}
use Rattle.nests_agree.proofs.Appended.{appended_as}
use Rattle.nests_agree.proofs.lines.lines_agree.Goals as goal

pub both_appended-requires-clause-alike : goal.both_appended-requires-clause-alike
both_appended-requires-clause-alike g c = (search rules, search rules, refl)

pub returns : goal.returns
returns g c =
    let found = lines_ample (g.met.R.SteadyRead.steady.found c.requires.found) in
    appended_as
    (λ l m h none none'. h.0.found (found _ _ l none h.0.first) (found _ _ m none' h.0.second))
    c.both_appended.ensures
