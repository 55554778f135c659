use Rattle.lite_consume.proofs.Given.{given}
use Rattle.lite_consume.specs.Next.{nexts}
use Rattle.lite_consume.proofs.block_on.BlockOn.next.Goals as goal

pub returns-clause-gave : goal.returns-clause-gave
returns-clause-gave g c = given (λ f. tt) nexts g.S.Stream.run _ _ _ _ c.ask.ensures.gave
