use Rattle.serving.specs.Uses.{rules}
use Rattle.lite_base.specs.Laws.FutureLaws.{polled_one}
use Rattle.serving.specs.Serving.{ServesPoll}
use Rattle.serving.specs.StepLaws.{poll_counts, served_ran}
use Rattle.serving.proofs.serving.ServingFuture.poll.Goals as goal

pub returns-clause-ran : goal.returns-clause-ran
returns-clause-ran g c =
    polled_one (ServesPoll g.C.Cutter.piece g.C.Cutter.refuses g.C.Cutter.cut_off g.T.ReadSpec.reads g.T.AsyncBufRead.buffer_of g.O.WriteSpec.writes
    g.S.Responder.answers g.S.Responder.refuses)
    (served_ran g.C.Cutter.piece g.C.Cutter.refuses g.C.Cutter.cut_off g.T.ReadSpec.reads g.T.AsyncBufRead.buffer_of g.O.WriteSpec.writes
    g.S.Responder.answers g.S.Responder.refuses g.O.WriteSpec.write_laws g.met.C.Cutter.some g.met.T.CountedRead.counting c.args.self.now c.drive.new.t c.drive.result c.drive.ensures.stepped)

pub returns-clause-again : goal.returns-clause-again
returns-clause-again g c =
    poll_counts g.C.Cutter.piece g.C.Cutter.refuses g.C.Cutter.cut_off g.T.ReadSpec.reads g.T.AsyncBufRead.buffer_of g.O.WriteSpec.writes
    g.S.Responder.answers g.S.Responder.refuses g.O.WriteSpec.write_laws g.met.C.Cutter.some g.met.T.CountedRead.counting c.args.self.now c.drive.new.t c.drive.result (search rules)
    (served_ran g.C.Cutter.piece g.C.Cutter.refuses g.C.Cutter.cut_off g.T.ReadSpec.reads g.T.AsyncBufRead.buffer_of g.O.WriteSpec.writes
    g.S.Responder.answers g.S.Responder.refuses g.O.WriteSpec.write_laws g.met.C.Cutter.some g.met.T.CountedRead.counting c.args.self.now c.drive.new.t c.drive.result c.drive.ensures.stepped)
