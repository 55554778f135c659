use Rattle.std.specs.Prelude.{◌≡◌, Err, Ok, Some, false, refl}
use Rattle.std.proofs.Common.{inl, rules}
use Rattle.framed.proofs.Serving.{not_encoded, not_written, nothing, stepped, went}
use Rattle.framed.proofs.server.serve_one.Goals as goal

pub returns-in-None-clause-served : goal.returns-in-None-clause-served
returns-in-None-clause-served g c =
    inl (nothing g.D.Decoder.gives g.S.Error.From.from_gives g.T.ReadSpec.reads g.T.AsyncBufRead.buffer_of g.O.WriteSpec.writes
    g.E.Encoder.encodes g.E.Encoder.refuses g.S.Service.answers g.S.Service.refuses _
    g.O.WriteSpec.write_laws c.take.new.requests c.take.new.replies (rw c.in-None.is at c.in_ok-take.ensures.taken))

pub returns-in-Ok-Ok-clause-served : goal.returns-in-Ok-Ok-clause-served
returns-in-Ok-Ok-clause-served g c =
    let t : c.in_ok-take.field-0 ≡ Some (Ok c.in-Some-Ok.request) = rw c.in-Some-Ok.field-0-is at c.in-Some-Ok.is in
    let s : c.send_replies.result ≡ Ok (Ok tt) = rw c.in-Ok-Ok.field-0-is at c.in-Ok-Ok.is in
    went g.D.Decoder.gives g.S.Error.From.from_gives g.T.ReadSpec.reads g.T.AsyncBufRead.buffer_of g.O.WriteSpec.writes
    g.E.Encoder.encodes g.E.Encoder.refuses g.S.Service.answers g.S.Service.refuses _
    _ c.in-Some-Ok.request _ (stepped g.D.Decoder.gives g.S.Error.From.from_gives g.T.ReadSpec.reads g.T.AsyncBufRead.buffer_of g.O.WriteSpec.writes
    g.E.Encoder.encodes g.E.Encoder.refuses g.S.Service.answers g.S.Service.refuses _
    _ (Ok c.in-Some-Ok.request) _ _ _ (rw t at c.in_ok-take.ensures.taken) (rw c.in-Ok.is at c.answer.ensures)
    _ c.send_replies.ensures s)

pub returns-in-Ok-Err-clause-served : goal.returns-in-Ok-Err-clause-served
returns-in-Ok-Err-clause-served g c =
    let t : c.in_ok-take.field-0 ≡ Some (Ok c.in-Some-Ok.request) = rw c.in-Some-Ok.field-0-is at c.in-Some-Ok.is in
    let s : c.send_replies.result ≡ Ok (Err c.in-Ok-Err.e) = rw c.in-Ok-Err.field-0-is at c.in-Ok-Err.is in
    not_written g.D.Decoder.gives g.S.Error.From.from_gives g.T.ReadSpec.reads g.T.AsyncBufRead.buffer_of g.O.WriteSpec.writes
    g.E.Encoder.encodes g.E.Encoder.refuses g.S.Service.answers g.S.Service.refuses _
    _ (Ok c.in-Some-Ok.request) _ _ _ (rw t at c.in_ok-take.ensures.taken) (rw c.in-Ok.is at c.answer.ensures)
    _ c.send_replies.ensures _ s

pub returns-in-Err-clause-served : goal.returns-in-Err-clause-served
returns-in-Err-clause-served g c =
    let t : c.in_ok-take.field-0 ≡ Some (Ok c.in-Some-Ok.request) = rw c.in-Some-Ok.field-0-is at c.in-Some-Ok.is in
    not_encoded g.D.Decoder.gives g.S.Error.From.from_gives g.T.ReadSpec.reads g.T.AsyncBufRead.buffer_of g.O.WriteSpec.writes
    g.E.Encoder.encodes g.E.Encoder.refuses g.S.Service.answers g.S.Service.refuses _
    _ (Ok c.in-Some-Ok.request) _ _ _ (rw t at c.in_ok-take.ensures.taken) (rw c.in-Ok.is at c.answer.ensures)
    _ c.send_replies.ensures _ c.in-Err.is

pub returns-in-Ok-Ok-send_replies-clause-served : goal.returns-in-Ok-Ok-send_replies-clause-served
returns-in-Ok-Ok-send_replies-clause-served g c =
    let t : c.in_ok-take.field-0 ≡ Some (Err c.in-Some-Err.error) = rw c.in-Some-Err.field-0-is at c.in-Some-Err.is in
    let s : c.send_replies-in-Some-Err.result ≡ Ok (Ok tt) = rw c.in-Ok-Ok-send_replies.field-0-is at c.in-Ok-Ok-send_replies.is in
    stepped g.D.Decoder.gives g.S.Error.From.from_gives g.T.ReadSpec.reads g.T.AsyncBufRead.buffer_of g.O.WriteSpec.writes
    g.E.Encoder.encodes g.E.Encoder.refuses g.S.Service.answers g.S.Service.refuses _
    _ (Err c.in-Some-Err.error) false _ _ (rw t at c.in_ok-take.ensures.taken)
    (rw c.in-Ok-refuse.is at c.refuse.ensures, refl) _ c.send_replies-in-Some-Err.ensures s

pub returns-in-Ok-Err-send_replies-clause-served : goal.returns-in-Ok-Err-send_replies-clause-served
returns-in-Ok-Err-send_replies-clause-served g c =
    let t : c.in_ok-take.field-0 ≡ Some (Err c.in-Some-Err.error) = rw c.in-Some-Err.field-0-is at c.in-Some-Err.is in
    let s : c.send_replies-in-Some-Err.result ≡ Ok (Err c.in-Ok-Err-send_replies.e) = rw c.in-Ok-Err-send_replies.field-0-is at c.in-Ok-Err-send_replies.is in
    not_written g.D.Decoder.gives g.S.Error.From.from_gives g.T.ReadSpec.reads g.T.AsyncBufRead.buffer_of g.O.WriteSpec.writes
    g.E.Encoder.encodes g.E.Encoder.refuses g.S.Service.answers g.S.Service.refuses _
    _ (Err c.in-Some-Err.error) false _ _ (rw t at c.in_ok-take.ensures.taken)
    (rw c.in-Ok-refuse.is at c.refuse.ensures, refl) _ c.send_replies-in-Some-Err.ensures _ s

pub returns-in-Err-send_replies-clause-served : goal.returns-in-Err-send_replies-clause-served
returns-in-Err-send_replies-clause-served g c =
    let t : c.in_ok-take.field-0 ≡ Some (Err c.in-Some-Err.error) = rw c.in-Some-Err.field-0-is at c.in-Some-Err.is in
    not_encoded g.D.Decoder.gives g.S.Error.From.from_gives g.T.ReadSpec.reads g.T.AsyncBufRead.buffer_of g.O.WriteSpec.writes
    g.E.Encoder.encodes g.E.Encoder.refuses g.S.Service.answers g.S.Service.refuses _
    _ (Err c.in-Some-Err.error) false _ _ (rw t at c.in_ok-take.ensures.taken)
    (rw c.in-Ok-refuse.is at c.refuse.ensures, refl) _ c.send_replies-in-Some-Err.ensures _ c.in-Err-send_replies.is

pub returns-in_default-clause-served : goal.returns-in_default-clause-served
returns-in_default-clause-served g c =
    let t : c.in_ok-take.field-0 ≡ Some (Ok c.in-Some-Ok.request) = rw c.in-Some-Ok.field-0-is at c.in-Some-Ok.is in
    (Ok c.in-Some-Ok.request, rw t at c.in_ok-take.ensures.taken, search rules, refl)

pub returns-in_default-refuse-clause-served : goal.returns-in_default-refuse-clause-served
returns-in_default-refuse-clause-served g c =
    let t : c.in_ok-take.field-0 ≡ Some (Err c.in-Some-Err.error) = rw c.in-Some-Err.field-0-is at c.in-Some-Err.is in
    (Err c.in-Some-Err.error, rw t at c.in_ok-take.ensures.taken, search rules, refl)
