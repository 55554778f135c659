use Rattle.lite_consume.proofs.Given.{given}
use Rattle.lite_consume.specs.Nth.{nths}
use Rattle.lite_consume.proofs.block_on.BlockOn.nth.Goals as goal

pub returns-clause-gave : goal.returns-clause-gave
returns-clause-gave g c = given (λ f. f.n) nths g.S.Stream.run _ _ _ _ c.ask.ensures.gave
