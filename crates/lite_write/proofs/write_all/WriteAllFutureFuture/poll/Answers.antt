use Rattle.lite_base.specs.Laws.Chain.{steps_answer}
use Rattle.lite_write.specs.Laws.WriteAll.{step_before}
use Rattle.lite_write.proofs.write_all.WriteAllFutureFuture.poll.Goals as goal

pub returns-clause-ran : goal.returns-clause-ran
returns-clause-ran g c = steps_answer (step_before g.W.WriteSpec.write_laws) c.drive.ensures.stepped
