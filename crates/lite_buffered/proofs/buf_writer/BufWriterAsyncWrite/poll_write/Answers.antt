use Rattle.std.specs.Prelude.{◌≡◌, ◌++◌, ◌<◌, ◌≤◌, length, Ok, Err}
use Rattle.lite_buffered.specs.Uses.{◌∙◌, rules, refl, sym, ap, arith, error_kind, Ready, Pending}
use Rattle.lite_buffered.specs.BufWriter.{writer_capacity}
use Rattle.lite_buffered.proofs.Answering.{passed_on, room_capacity, room_fails, room_then_hold, room_then_past}
use Rattle.lite_buffered.proofs.Answering.{room_waits, stops_failing, stops_waiting}
use Rattle.lite_buffered.proofs.Answering.{shown_none}
use Rattle.lite_buffered.proofs.buf_writer.BufWriterAsyncWrite.poll_write.Goals as goal

pub returns-clause-ran : goal.returns-clause-ran
returns-clause-ran g c =
    let got : c.make_room.result ≡ Pending = search rules in
    room_waits g.W.WriteSpec.writes c.args.self.now c.make_room.new.self _ (rw got at c.make_room.ensures.ran)

pub returns-in-Err-clause-ran : goal.returns-in-Err-clause-ran
returns-in-Err-clause-ran g c =
    let got : c.make_room.result ≡ Ready (Err c.in-Err.e) = search rules in
    room_fails g.W.WriteSpec.writes c.args.self.now c.make_room.new.self _ (error_kind c.in-Err.e)
    (rw got at c.make_room.ensures.ran)

pub returns-then-buf-len-clause-ran : goal.returns-then-buf-len-clause-ran
returns-then-buf-len-clause-ran g c =
    let got : c.make_room.result ≡ Ready (Ok c.in-Ok.field-0) = search rules in
    let ran = rw got at c.make_room.ensures.ran in
    room_then_past g.W.WriteSpec.writes g.W.WriteSpec.write_laws c.args.self.now c.make_room.new.self _
    c.args.buf.now c.poll_write.result ran (search rules) c.poll_write.ensures.ran refl refl

pub returns-2-clause-ran : goal.returns-2-clause-ran
returns-2-clause-ran g c =
    let got : c.make_room.result ≡ Ready (Ok c.in-Ok.field-0) = search rules in
    let ran = rw got at c.make_room.ensures.ran in
    let e = c.hold.ensures in
    room_then_hold g.W.WriteSpec.writes g.W.WriteSpec.write_laws c.args.self.now c.make_room.new.self c.hold.new.self
    c.args.buf.now ran e.inner e.capacity e.held

pub returns-clause-passes : goal.returns-clause-passes
returns-clause-passes g c long =
    let got : c.make_room.result ≡ Pending = search rules in
    stops_waiting g.W.WriteSpec.writes c.args.self.now c.make_room.new.self _ c.args.buf.now
    (rw got at c.make_room.ensures.ran)

pub returns-in-Err-clause-passes : goal.returns-in-Err-clause-passes
returns-in-Err-clause-passes g c long =
    let got : c.make_room.result ≡ Ready (Err c.in-Err.e) = search rules in
    stops_failing g.W.WriteSpec.writes c.args.self.now c.make_room.new.self _ c.args.buf.now c.in-Err.e
    (rw got at c.make_room.ensures.ran)

pub returns-then-buf-len-clause-passes : goal.returns-then-buf-len-clause-passes
returns-then-buf-len-clause-passes g c long =
    let got : c.make_room.result ≡ Ready (Ok c.in-Ok.field-0) = search rules in
    let ran = rw got at c.make_room.ensures.ran in
    passed_on g.W.WriteSpec.writes g.W.WriteSpec.write_laws c.args.self.now c.make_room.new.self _
    c.args.buf.now c.poll_write.result ran (search rules) c.poll_write.ensures.ran refl

pub returns-2-clause-passes : goal.returns-2-clause-passes
returns-2-clause-passes g c long =
    let small : length c.args.buf.now < writer_capacity c.make_room.new.self = search rules in
    let kept : writer_capacity c.make_room.new.self ≡ writer_capacity c.args.self.now =
    room_capacity g.W.WriteSpec.writes c.args.self.now c.make_room.new.self _ _ c.make_room.ensures.ran in
    absurd (omega (arith, kept, small, long))

pub returns-clause-shown : goal.returns-clause-shown
returns-clause-shown g c none =
    let e = c.make_room.ensures in
    let got : c.make_room.result ≡ Pending = search rules in
    rw got at (e.shown (λ fits. absurd (cc (sym got ∙ (e.idle fits).1))))

pub returns-in-Err-clause-shown : goal.returns-in-Err-clause-shown
returns-in-Err-clause-shown g c none =
    let e = c.make_room.ensures in
    let got : c.make_room.result ≡ Ready (Err c.in-Err.e) = search rules in
    rw got at (e.shown (λ fits. absurd (cc (sym got ∙ (e.idle fits).1))))

pub returns-then-buf-len-clause-shown : goal.returns-then-buf-len-clause-shown
returns-then-buf-len-clause-shown g c none =
    let m = c.make_room.new.self in
    let got : c.make_room.result ≡ Ready (Ok c.in-Ok.field-0) = search rules in
    let free = rw got at c.make_room.ensures.free in
    let large : writer_capacity m ≤ length c.args.buf.now = search rules in
    shown_none c.args.self.now m _ c.poll_write.result (free large) refl refl refl

pub returns-2-clause-shown : goal.returns-2-clause-shown
returns-2-clause-shown g c none =
    let e = c.make_room.ensures in
    let got : c.make_room.result ≡ Ready (Ok c.in-Ok.field-0) = search rules in
    let small : length c.args.buf.now < writer_capacity c.make_room.new.self = search rules in
    let kept : writer_capacity c.make_room.new.self ≡ writer_capacity c.args.self.now =
    room_capacity g.W.WriteSpec.writes c.args.self.now c.make_room.new.self _ _ e.ran in
    let shown = rw got at (e.shown (λ fits. none (fits, rw kept at small))) in
    c.hold.ensures.buffered ∙ ap (λ l. l ++ c.args.buf.now) shown ∙ sym c.hold.ensures.held

pub returns-then-buf-len-clause-whole : goal.returns-then-buf-len-clause-whole
returns-then-buf-len-clause-whole g c small =
    let m = c.make_room.new.self in
    let kept : writer_capacity m ≡ writer_capacity c.args.self.now =
    room_capacity g.W.WriteSpec.writes c.args.self.now m _ _ c.make_room.ensures.ran in
    let large : writer_capacity m ≤ length c.args.buf.now = search rules in
    absurd (omega (arith, kept, large, small))
