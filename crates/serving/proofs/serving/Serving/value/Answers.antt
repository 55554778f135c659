use Rattle.serving.specs.Uses.{refl, rules}
use Rattle.serving.specs.ServingLaws.{ends_now}
use Rattle.serving.proofs.serving.Serving.value.Goals as goal

pub returns : goal.returns
returns g c =
    rw c.value.ensures
    (ends_now g.C.Cutter.piece g.C.Cutter.refuses g.C.Cutter.cut_off g.T.ReadSpec.reads g.T.AsyncBufRead.buffer_of g.O.WriteSpec.writes
    g.S.Responder.answers g.S.Responder.refuses g.O.WriteSpec.write_laws c.args.self.now _ c.in-Some.stop c.requires.sent (search rules)
    (rw (← c.self.view_is, c.replace.ensures.after) refl))
