use Rattle.serving.specs.ServingLaws.{waited_for}
use Rattle.serving.proofs.waiting.wait_serving.Goals as goal

pub returns : goal.returns
returns g c =
    waited_for g.C.Cutter.piece g.C.Cutter.refuses g.C.Cutter.cut_off g.T.ReadSpec.reads g.T.AsyncBufRead.buffer_of g.O.WriteSpec.writes
    g.S.Responder.answers g.S.Responder.refuses g.O.WriteSpec.write_laws c.args.serving.now c.wait.new.future c.wait.ensures.0 c.wait.result
    c.wait.ensures.1 c.wait.ensures.2
