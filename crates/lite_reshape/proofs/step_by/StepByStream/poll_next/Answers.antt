use Rattle.lite_reshape.specs.Laws.StepBy.{Countdown, stepped}
use Rattle.lite_reshape.proofs.PollSteps.{sifts_answer}
use Rattle.lite_reshape.proofs.step_by.StepByStream.poll_next.Goals as goal

pub returns-clause-ran : goal.returns-clause-ran
returns-clause-ran g c =
    let steps = c.drive.ensures.stepped in
    stepped g.S.Stream.run _ _ _ _ c.drive.result c.requires.1
    (sifts_answer Countdown g.S.Stream.run _ (λ m. m.stream)
    (λ m. (m.step, m.i)) g.met.S.Stream.laws.follows _ steps.0 _ _ steps.1 steps.2)
