use Rattle.std.proofs.Common.{rules}
use Rattle.nests_agree.proofs.agree.none_waits.Goals as goal

pub run_calm-requires-clause-calm : goal.run_calm-requires-clause-calm
run_calm-requires-clause-calm c = (search rules, (search rules, record { at = λ xs p q x v folds d. tt }))

pub returns : goal.returns
returns c =
    let ran = c.run_calm.ensures.no_pending in
    (ran.0, ran.1, ran.4, ran.5, ran.3)
