use Rattle.lite_theorems.proofs.Whole.{chained}
use Rattle.lite_theorems.proofs.chained.copy_chain.Goals as goal

pub returns-clause-whole : goal.returns-clause-whole
returns-clause-whole g c =
    let made = c.chain.ensures in
    chained g.R1.ReadSpec.reads g.R2.ReadSpec.reads g.W.WriteSpec.writes g.R1.ReadSpec.read_laws c.chain.result c.args.first
    c.args.second c.args.writer.now
    c.copy_buffered.result made.first made.second made.fresh c.copy_buffered.ensures.whole
