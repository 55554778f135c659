use Rattle.lite_theorems.proofs.Whole.{copied}
use Rattle.lite_theorems.proofs.chained.copy_buffered.Goals as goal

pub returns-clause-whole : goal.returns-clause-whole
returns-clause-whole g c =
    let copies = c.copy.ensures in
    copied g.R.ReadSpec.reads g.W.WriteSpec.writes c.args.reader c.args.writer c.copy.result copies.reader copies.writer
    copies.begins
