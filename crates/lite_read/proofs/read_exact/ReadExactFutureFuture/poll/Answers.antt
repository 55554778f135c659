use Rattle.lite_read.specs.Laws.ReadExact.{step_before}
use Rattle.lite_read.specs.Uses.{steps_answer}
use Rattle.lite_read.proofs.read_exact.ReadExactFutureFuture.poll.Goals as goal

pub returns-clause-ran : goal.returns-clause-ran
returns-clause-ran g c = steps_answer (step_before g.R.ReadSpec.read_laws) c.drive.ensures.stepped
