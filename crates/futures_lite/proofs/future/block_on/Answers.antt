use Rattle.futures_lite.specs.Uses.{Waited, seen}
use Rattle.futures_lite.proofs.future.block_on.Goals as goal

pub returns-clause-waited : goal.returns-clause-waited
unfolding Waited
returns-clause-waited g c = (seen _ _, c.block_on.ensures)
