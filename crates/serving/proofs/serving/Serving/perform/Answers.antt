use Rattle.serving.specs.Performing.{performs_ended}
use Rattle.serving.proofs.serving.Serving.perform.Goals as goal

pub returns-in-None : goal.returns-in-None
returns-in-None g c =
    rw c.in-None.is
    (performs_ended g.T.AsyncBufRead.buffer_of g.S.Responder.answers g.S.Responder.refuses c.args.self.now _ c.end_by.ensures)
