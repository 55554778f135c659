use Rattle.lite_bridge.specs.Uses.{refl}
use Rattle.lite_bridge.proofs.Reading.{filled_once}
use Rattle.lite_bridge.proofs.filling.FillingFuture.poll.Goals as goal

pub returns-clause-ran : goal.returns-clause-ran
returns-clause-ran g c = filled_once g.T.ReadSpec.reads g.T.AsyncBufRead.buffer_of _ _ c.fill.result c.fill.ensures.ran refl
