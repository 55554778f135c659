use Rattle.lite_reshape.specs.Uses.{CalledAt}
use Rattle.lite_reshape.specs.SkipWhile.{SkipsUntil}
use Rattle.lite_reshape.proofs.PollSteps.{sifts_answer}
use Rattle.lite_reshape.proofs.skip_while.SkipWhileStream.poll_next.Goals as goal

pub returns-clause-ran : goal.returns-clause-ran
returns-clause-ran g c = let steps = c.drive.ensures.stepped in
    sifts_answer (SkipsUntil (CalledAt g.P.FnMut)) g.S.Stream.run _ (λ m. m.stream)
    (λ m. m.predicate) g.met.S.Stream.laws.follows _ steps.0 _ _ steps.1 steps.2
