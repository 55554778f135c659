use Rattle.lite_consume.proofs.PollSteps.{steps_answer}
use Rattle.lite_consume.proofs.consume.ConsumeFuture.poll.Goals as goal

pub returns-clause-ran : goal.returns-clause-ran
returns-clause-ran g c = let steps = c.drive.ensures.stepped in
    steps_answer g.S.Stream.run g.F.Folder.fold g.met.S.Stream.laws.follows _ _ steps.0 _ _ steps.1 steps.2
