use Rattle.lite_write.specs.Laws.Copy.{copy_answer}
use Rattle.lite_base.specs.Laws.FutureLaws.{goes_again}
use Rattle.lite_write.proofs.copy.CopyFutureFuture.poll.Goals as goal

pub returns-clause-ran : goal.returns-clause-ran
returns-clause-ran g c =
    let steps = c.drive.ensures.stepped in
    copy_answer g.R.ReadSpec.read_laws g.W.WriteSpec.write_laws _ steps.0 _ c.drive.result steps.1 steps.2

pub returns-clause-again : goal.returns-clause-again
returns-clause-again g c =
    let steps = c.drive.ensures.stepped in
    let ran = copy_answer g.R.ReadSpec.read_laws g.W.WriteSpec.write_laws _ steps.0 _ c.drive.result steps.1 steps.2 in
    goes_again c.drive.result (g.met.R.CountedRead.counting.counts_on _ _ ran.moves.told c.requires ran.moves.came)
