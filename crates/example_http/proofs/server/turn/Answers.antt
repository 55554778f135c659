use Rattle.std.specs.Prelude.{◌≡◌, ◌<◌, [], Err, length, refl}
use Rattle.std.proofs.Common.{inl, inr, rules}
use Rattle.http_server.specs.Connection.{config_of, history}
use Rattle.http_server.specs.History.{IsDone}
use Rattle.example_http.proofs.Steps.{answered, stopped, waiting}
use Rattle.example_http.proofs.server.turn.Goals as goal

pub returns-in-Ok-clause-turned : goal.returns-in-Ok-clause-turned
returns-in-Ok-clause-turned g c =
    let a = c.advance.ensures in
    let w = c.in-Ok.ensures.wrote in (
      record { told = []; took = w.0 },
      (
        _,
        answered (config_of c.args.connection.now) g.T.ReadSpec.reads g.T.AsyncBufRead.buffer_of g.O.WriteSpec.writes g.S.Service.answers _ c.advance.new.service
            (history c.advance.new.self) _ a.config a.calls a.quiet a.served a.rests,
        inl (w.1, refl, refl, refl),
      ),
    )

pub returns-in-Err-clause-turned : goal.returns-in-Err-clause-turned
returns-in-Err-clause-turned g c =
    let a = c.advance.ensures in
    let w = c.in-Err.ensures.wrote in (
      record { told = []; took = w.0 },
      (
        _,
        answered (config_of c.args.connection.now) g.T.ReadSpec.reads g.T.AsyncBufRead.buffer_of g.O.WriteSpec.writes g.S.Service.answers _ c.advance.new.service
            (history c.advance.new.self) _ a.config a.calls a.quiet a.served a.rests,
        inl (w.1, refl, refl, refl),
      ),
    )

pub returns-in-Ok-flush-clause-turned : goal.returns-in-Ok-flush-clause-turned
returns-in-Ok-flush-clause-turned g c =
    let a = c.advance.ensures in
    let f = c.in-Ok-flush.ensures in
    let done : IsDone (history c.advance.new.self) = search rules in (
      record { told = []; took = f.0 },
      (
        _,
        answered (config_of c.args.connection.now) g.T.ReadSpec.reads g.T.AsyncBufRead.buffer_of g.O.WriteSpec.writes g.S.Service.answers _ c.advance.new.service
            (history c.advance.new.self) _ a.config a.calls a.quiet a.served a.rests,
        (done, f.1, refl, refl, refl, refl),
      ),
    )

pub returns-in-Err-flush-clause-turned : goal.returns-in-Err-flush-clause-turned
returns-in-Err-flush-clause-turned g c =
    let a = c.advance.ensures in
    let f = c.in-Err-flush.ensures in
    let done : IsDone (history c.advance.new.self) = search rules in (
      record { told = []; took = f.0 },
      (
        _,
        answered (config_of c.args.connection.now) g.T.ReadSpec.reads g.T.AsyncBufRead.buffer_of g.O.WriteSpec.writes g.S.Service.answers _ c.advance.new.service
            (history c.advance.new.self) _ a.config a.calls a.quiet a.served a.rests,
        inr (inl (done, f.1, refl, refl, refl, refl)),
      ),
    )

pub returns-in_err-read_more-clause-turned : goal.returns-in_err-read_more-clause-turned
returns-in_err-read_more-clause-turned g c =
    let a = c.advance.ensures in
    let r = c.in_err-read_more.ensures.received in
    let is : c.from_residual.result ≡ Err c.in_err-read_more.field-0.0 = search rules in
    let none : 0 < length (history c.advance.new.self).pending → ⊥ = (λ some. search (rules, some)) in
    let going : IsDone (history c.advance.new.self) → ⊥ = (λ done. search (rules, done)) in
    let now = answered (config_of c.args.connection.now) g.T.ReadSpec.reads g.T.AsyncBufRead.buffer_of g.O.WriteSpec.writes g.S.Service.answers
    (record { reader = c.args.reader.now; writer = c.args.writer.now; service = c.args.service.now; history = history c.args.connection.now })
    c.advance.new.service (history c.advance.new.self) _ a.config a.calls a.quiet a.served a.rests in
    rw is (
      r.0,
      stopped (config_of c.args.connection.now) g.T.ReadSpec.reads g.T.AsyncBufRead.buffer_of g.O.WriteSpec.writes g.S.Service.answers _ _
          (record {
            reader = c.read_more.new.reader;
            writer = c.read_more.new.writer;
            service = c.advance.new.service;
            history = history c.read_more.new.connection;
          })
          r.0 c.in_err-read_more.field-0.0 now (waiting (history c.advance.new.self) none going, r.1, refl),
    )

pub returns-clause-turned : goal.returns-clause-turned
returns-clause-turned g c =
    let a = c.advance.ensures in
    let r = c.in_ok-read_more.ensures.received in
    let none : 0 < length (history c.advance.new.self).pending → ⊥ = (λ some. search (rules, some)) in
    let going : IsDone (history c.advance.new.self) → ⊥ = (λ done. search (rules, done)) in (
      r.0,
      (
        _,
        answered (config_of c.args.connection.now) g.T.ReadSpec.reads g.T.AsyncBufRead.buffer_of g.O.WriteSpec.writes g.S.Service.answers _ c.advance.new.service
            (history c.advance.new.self) _ a.config a.calls a.quiet a.served a.rests,
        inr (waiting (history c.advance.new.self) none going, r.1, refl),
      ),
    )
