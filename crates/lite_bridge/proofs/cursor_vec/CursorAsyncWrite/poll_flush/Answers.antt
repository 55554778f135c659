use Rattle.lite_bridge.specs.Uses.{refl}
use Rattle.lite_bridge.proofs.cursor_vec.CursorAsyncWrite.poll_flush.Goals as goal

pub returns-clause-ran : goal.returns-clause-ran
returns-clause-ran g c = (c.args.self.now, refl, refl)
