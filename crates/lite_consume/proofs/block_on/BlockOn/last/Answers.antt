use Rattle.lite_consume.proofs.Given.{given_last}
use Rattle.lite_consume.specs.Last.{lasts}
use Rattle.lite_consume.proofs.block_on.BlockOn.last.Goals as goal

pub returns-clause-gave : goal.returns-clause-gave
returns-clause-gave g c = given_last (λ f. f.last) lasts g.S.Stream.run _ _ _ _ c.ask.ensures.gave
