use Rattle.serving.specs.Uses.{rules}
use Rattle.serving.specs.StepLaws.{ends_then, fails_then, pends_blocked, puts_then, reads_blocked, reads_then}
use Rattle.serving.proofs.serving.ServingPollSteps.poll_step.Goals as goal

pub returns-in-Ready-Ok-true-clause-stepped : goal.returns-in-Ready-Ok-true-clause-stepped
returns-in-Ready-Ok-true-clause-stepped g c =
    puts_then g.C.Cutter.piece g.C.Cutter.refuses g.C.Cutter.cut_off g.T.ReadSpec.reads g.T.AsyncBufRead.buffer_of g.O.WriteSpec.writes
    g.S.Responder.answers g.S.Responder.refuses g.O.WriteSpec.write_laws g.met.C.Cutter.some g.met.T.CountedRead.counting c.args.self.now
    c.take_in_hand.new.self c.put_out.new.self c.put_out.new.self
    (search rules) (search rules)

pub returns-in-Ready-Err-clause-stepped : goal.returns-in-Ready-Err-clause-stepped
returns-in-Ready-Err-clause-stepped g c =
    fails_then g.C.Cutter.piece g.C.Cutter.refuses g.C.Cutter.cut_off g.T.ReadSpec.reads g.T.AsyncBufRead.buffer_of g.O.WriteSpec.writes
    g.S.Responder.answers g.S.Responder.refuses g.O.WriteSpec.write_laws g.met.C.Cutter.some g.met.T.CountedRead.counting c.args.self.now
    c.take_in_hand.new.self c.put_out.new.self c.put_out.new.self
    (search rules) c.in-Ready-Err.kind (search rules)

pub returns-then-may_take-clause-stepped : goal.returns-then-may_take-clause-stepped
returns-then-may_take-clause-stepped g c =
    reads_then g.C.Cutter.piece g.C.Cutter.refuses g.C.Cutter.cut_off g.T.ReadSpec.reads g.T.AsyncBufRead.buffer_of g.O.WriteSpec.writes
    g.S.Responder.answers g.S.Responder.refuses g.O.WriteSpec.write_laws g.met.C.Cutter.some g.met.T.CountedRead.counting c.args.self.now
    c.take_in_hand.new.self c.put_out.new.self
    c.take_by_read.new.self (search rules) (search rules) c.take_by_read.result (search rules) (search rules)

pub returns-else-may_take-clause-stepped : goal.returns-else-may_take-clause-stepped
returns-else-may_take-clause-stepped g c =
    ends_then g.C.Cutter.piece g.C.Cutter.refuses g.C.Cutter.cut_off g.T.ReadSpec.reads g.T.AsyncBufRead.buffer_of g.O.WriteSpec.writes
    g.S.Responder.answers g.S.Responder.refuses g.O.WriteSpec.write_laws g.met.C.Cutter.some g.met.T.CountedRead.counting c.args.self.now
    c.take_in_hand.new.self c.put_out.new.self
    c.value.new.self (search rules) (search rules) c.value.result (search rules)

pub returns-then-may_take-2-clause-stepped : goal.returns-then-may_take-2-clause-stepped
returns-then-may_take-2-clause-stepped g c =
    reads_blocked g.C.Cutter.piece g.C.Cutter.refuses g.C.Cutter.cut_off g.T.ReadSpec.reads g.T.AsyncBufRead.buffer_of g.O.WriteSpec.writes
    g.S.Responder.answers g.S.Responder.refuses g.O.WriteSpec.write_laws g.met.C.Cutter.some g.met.T.CountedRead.counting c.args.self.now
    c.take_in_hand.new.self c.put_out.new.self
    c.take_by_read-then-may_take-2.new.self (search rules) (search rules) c.take_by_read-then-may_take-2.result (search rules) (search rules)

pub returns-else-may_take-2-clause-stepped : goal.returns-else-may_take-2-clause-stepped
returns-else-may_take-2-clause-stepped g c =
    pends_blocked g.C.Cutter.piece g.C.Cutter.refuses g.C.Cutter.cut_off g.T.ReadSpec.reads g.T.AsyncBufRead.buffer_of g.O.WriteSpec.writes
    g.S.Responder.answers g.S.Responder.refuses g.O.WriteSpec.write_laws g.met.C.Cutter.some g.met.T.CountedRead.counting c.args.self.now
    c.take_in_hand.new.self c.put_out.new.self
    c.put_out.new.self (search rules) (search rules) (search rules) (search rules)
