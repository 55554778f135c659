use Rattle.lite_base.specs.Laws.Spent.{gave_finishes}
use Rattle.lite_base.proofs.future.block_on.BlockOn.block_on.Goals as goal

pub returns-clause-gave : goal.returns-clause-gave
returns-clause-gave g c = gave_finishes g.F.Future.run c.args.future c.wait_for.new.future c.wait_for.result c.wait_for.ensures.gave
