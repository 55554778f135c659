use Rattle.lite_consume.specs.Uses.{Calls}
use Rattle.lite_consume.specs.Given.{MayCall}
use Rattle.lite_consume.proofs.Given.{each_of, given}
use Rattle.lite_consume.specs.Any.{any_fold}
use Rattle.lite_consume.proofs.block_on.BlockOn.any.Goals as goal

pub ask-requires-clause-asks : goal.ask-requires-clause-asks
ask-requires-clause-asks g c =
    each_of (λ f. f.predicate) (any_fold (Calls g.P.FnMut)) g.S.Stream.run (MayCall g.P.FnMut) _ _ c.requires.asks

pub returns-clause-gave : goal.returns-clause-gave
returns-clause-gave g c = given (λ f. f.predicate) (any_fold (Calls g.P.FnMut)) g.S.Stream.run _ _ _ _ c.ask.ensures.gave
