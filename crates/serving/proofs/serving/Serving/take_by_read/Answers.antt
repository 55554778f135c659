use Rattle.serving.specs.Uses.{Advances, Ready, ap, refl, subst}
use Rattle.serving.specs.StepLaws.{turn_goes_on}
use Rattle.serving.proofs.serving.Serving.take_by_read.Goals as goal

pub returns-in-Ready-clause-took : goal.returns-in-Ready-clause-took
returns-in-Ready-clause-took g c =
    let found = subst
    (λ r. Advances g.C.Cutter.piece g.C.Cutter.refuses g.C.Cutter.cut_off g.T.ReadSpec.reads g.T.AsyncBufRead.buffer_of r (Ready c.in-Ready.found) c.poll_advance.new.self)
    (ap (λ s. s.requests) c.self.view_is) c.in-Ready.ensures.advanced in
    turn_goes_on g.C.Cutter.piece g.C.Cutter.refuses g.C.Cutter.cut_off g.T.ReadSpec.reads g.T.AsyncBufRead.buffer_of g.O.WriteSpec.writes
    g.S.Responder.answers g.S.Responder.refuses g.O.WriteSpec.write_laws g.met.C.Cutter.some g.met.T.CountedRead.counting c.args.self.now _
    c.perform.new.self c.in-Ready.found c.perform.ensures (rw (← c.self.view_is) c.self.invariant.1) c.requires.counts c.requires.may
    found (rw (← c.self.view_is) refl)
