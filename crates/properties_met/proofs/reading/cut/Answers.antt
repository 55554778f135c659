use Rattle.lite_read.proofs.Refusals.{lines_ample}
use Rattle.properties_met.proofs.Unrefused.{split_ample}
use Rattle.properties_met.proofs.reading.cut.Goals as goal

pub returns-clause-ample_lines : goal.returns-clause-ample_lines
returns-clause-ample_lines g c = lines_ample

pub returns-clause-ample_split : goal.returns-clause-ample_split
returns-clause-ample_split g c = split_ample
