use Rattle.lite_consume.specs.Fold.{CallsBoth, folds}
use Rattle.lite_consume.specs.Given.{MayFold}
use Rattle.lite_consume.proofs.Given.{each_of, given_last}
use Rattle.lite_consume.proofs.block_on.BlockOn.fold.Goals as goal

pub ask-requires-clause-asks : goal.ask-requires-clause-asks
ask-requires-clause-asks g c =
    each_of (λ m. (m.f, m.acc)) (folds (CallsBoth g.F.FnMut)) g.S.Stream.run (MayFold g.F.FnMut) _ _ c.requires.asks

pub returns-clause-gave : goal.returns-clause-gave
returns-clause-gave g c = given_last (λ m. (m.f, m.acc)) (folds (CallsBoth g.F.FnMut)) g.S.Stream.run _ _ _ _ c.ask.ensures.gave
