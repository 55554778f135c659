use Rattle.lite_reshape.specs.Inner.{flatten_parts}
use Rattle.lite_reshape.specs.Uses.{runs_of}
use Rattle.lite_reshape.specs.Laws.Flatten.{flat_answer}
use Rattle.lite_reshape.proofs.flatten.FlattenStream.poll_next.Goals as goal

pub returns-clause-ran : goal.returns-clause-ran
returns-clause-ran g c =
    let steps = c.drive.ensures.stepped in
    let runs = runs_of g.met.S.Stream.laws in
    flat_answer g.B.Stream.run g.S.Stream.run runs flatten_parts _ _ steps.0 _ _ steps.1 steps.2
