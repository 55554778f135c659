use Rattle.serving.specs.Uses.{Advances, Ready, ap, refl, rules, subst}
use Rattle.serving.specs.StepLaws.{in_hand_advances, looks_never, looks_only, turn_goes_on}
use Rattle.serving.proofs.serving.Serving.take_in_hand.Goals as goal

pub returns-in-Ready : goal.returns-in-Ready
returns-in-Ready g c =
    let found = subst
    (λ r. Advances g.C.Cutter.piece g.C.Cutter.refuses g.C.Cutter.cut_off g.T.ReadSpec.reads g.T.AsyncBufRead.buffer_of r (Ready c.in-Ready.found) c.advance_in_hand.new.self)
    (ap (λ s. s.requests) c.self.view_is) (in_hand_advances g.C.Cutter.piece g.C.Cutter.refuses g.C.Cutter.cut_off g.T.ReadSpec.reads g.T.AsyncBufRead.buffer_of _ _ _ c.in-Ready.ensures) in
    turn_goes_on g.C.Cutter.piece g.C.Cutter.refuses g.C.Cutter.cut_off g.T.ReadSpec.reads g.T.AsyncBufRead.buffer_of g.O.WriteSpec.writes
    g.S.Responder.answers g.S.Responder.refuses g.O.WriteSpec.write_laws g.met.C.Cutter.some g.met.T.CountedRead.counting c.args.self.now _
    c.perform.new.self c.in-Ready.found c.perform.ensures (rw (← c.self.view_is) c.self.invariant.1) c.requires (search rules)
    found (rw (← c.self.view_is) refl)

pub returns-in-Pending : goal.returns-in-Pending
returns-in-Pending g c =
    looks_only g.C.Cutter.piece g.C.Cutter.refuses g.C.Cutter.cut_off g.T.ReadSpec.reads g.T.AsyncBufRead.buffer_of g.O.WriteSpec.writes
    g.S.Responder.answers g.S.Responder.refuses g.O.WriteSpec.write_laws g.met.C.Cutter.some g.met.T.CountedRead.counting c.args.self.now _
    (rw (← c.self.view_is) c.self.invariant.1) c.requires (rw (← c.self.view_is) (c.in-Pending.ensures)) (rw (← c.self.view_is) refl)

pub returns-then-not-may_take : goal.returns-then-not-may_take
returns-then-not-may_take g c =
    looks_never g.C.Cutter.piece g.C.Cutter.refuses g.C.Cutter.cut_off g.T.ReadSpec.reads g.T.AsyncBufRead.buffer_of g.O.WriteSpec.writes
    g.S.Responder.answers g.S.Responder.refuses g.O.WriteSpec.write_laws g.met.C.Cutter.some g.met.T.CountedRead.counting c.args.self.now
    c.requires
