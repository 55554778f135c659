use Rattle.std.specs.Prelude.{◌≡◌, Err, Ok, false, refl}
use Rattle.std.proofs.Common.{rules}
use Rattle.framed.proofs.Serving.{flushed, unflushed}
use Rattle.framed.proofs.server.serve_next.Goals as goal

pub returns-in-Ok-clause-served : goal.returns-in-Ok-clause-served
returns-in-Ok-clause-served g c =
    let s : c.serve_one.result ≡ Ok (Ok false) = search rules in
    let f : c.flush_by.result ≡ Ok tt = search rules in (
      (record {
        requests = c.serve_one.new.requests;
        replies = c.serve_one.new.replies;
        encoder = c.serve_one.new.encoder;
        service = c.serve_one.new.service;
      }),
      rw s at c.serve_one.ensures.served,
      rw f at c.flush_by.ensures,
      refl,
      refl,
      refl,
    )

pub returns-in-Err-flush_by-clause-served : goal.returns-in-Err-flush_by-clause-served
returns-in-Err-flush_by-clause-served g c =
    let s : c.serve_one.result ≡ Ok (Ok false) = search rules in
    unflushed g.D.Decoder.gives g.S.Error.From.from_gives g.T.ReadSpec.reads g.T.AsyncBufRead.buffer_of g.O.WriteSpec.writes
    g.E.Encoder.encodes g.E.Encoder.refuses g.S.Service.answers g.S.Service.refuses _
    (record {
      requests = c.serve_one.new.requests;
      replies = c.serve_one.new.replies;
      encoder = c.serve_one.new.encoder;
      service = c.serve_one.new.service;
    }) _ refl refl refl
    (Ok false) (λ ends. cc ends) (rw s at c.serve_one.ensures.served) _ (rw c.in-Err-flush_by.is at c.flush_by.ensures)

pub returns-in-Ok-flush_by-clause-served : goal.returns-in-Ok-flush_by-clause-served
returns-in-Ok-flush_by-clause-served g c =
    let s : c.serve_one.result ≡ Ok (Err c.in-Ok-Err.stopped) = rw c.in-Ok-Err.field-0-is at c.in-Ok-Err.is in
    let f : c.flush_by-in-Ok-Err.result ≡ Ok tt = search rules in
    flushed g.D.Decoder.gives g.S.Error.From.from_gives g.T.ReadSpec.reads g.T.AsyncBufRead.buffer_of g.O.WriteSpec.writes
    g.E.Encoder.encodes g.E.Encoder.refuses g.S.Service.answers g.S.Service.refuses _
    (record {
      requests = c.serve_one.new.requests;
      replies = c.serve_one.new.replies;
      encoder = c.serve_one.new.encoder;
      service = c.serve_one.new.service;
    }) _ refl refl refl
    c.in-Ok-Err.stopped (rw s at c.serve_one.ensures.served) (rw f at c.flush_by-in-Ok-Err.ensures)

pub returns-in-Err-flush_by-2-clause-served : goal.returns-in-Err-flush_by-2-clause-served
returns-in-Err-flush_by-2-clause-served g c =
    let s : c.serve_one.result ≡ Ok (Err c.in-Ok-Err.stopped) = rw c.in-Ok-Err.field-0-is at c.in-Ok-Err.is in
    unflushed g.D.Decoder.gives g.S.Error.From.from_gives g.T.ReadSpec.reads g.T.AsyncBufRead.buffer_of g.O.WriteSpec.writes
    g.E.Encoder.encodes g.E.Encoder.refuses g.S.Service.answers g.S.Service.refuses _
    (record {
      requests = c.serve_one.new.requests;
      replies = c.serve_one.new.replies;
      encoder = c.serve_one.new.encoder;
      service = c.serve_one.new.service;
    }) _ refl refl refl
    (Err c.in-Ok-Err.stopped) (λ ends. cc ends) (rw s at c.serve_one.ensures.served) _
    (rw c.in-Err-flush_by-2.is at c.flush_by-in-Ok-Err.ensures)
