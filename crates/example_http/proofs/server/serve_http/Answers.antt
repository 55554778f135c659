use Rattle.std.specs.Prelude.{◌≡◌, ◌++◌, ◌∷◌, [], Err, Ok, false, refl, true}
use Rattle.std.proofs.Common.{rules}
use Rattle.http_server.specs.Connection.{config_of, history}
use Rattle.example_http.proofs.Sums.{serves_whole}
use Rattle.example_http.proofs.Steps.{finished, stepped, turned}
use Rattle.example_http.proofs.server.serve_http.Goals as goal

pub loop-init : goal.loop-init
loop-init g c = (tt, tt, refl, [], refl)

pub returns-in_err-turn-clause-served : goal.returns-in_err-turn-clause-served
returns-in_err-turn-clause-served g c =
    let all = c.loop.invariant in
    let is : c.from_residual.result ≡ Err c.in_err-turn.field-0.0 = search rules in
    let t = c.in_err-turn.ensures.turned in
    rw is (
      all.3,
      _,
      t.0,
      all.4,
      turned (config_of c.args.connection.now) g.T.ReadSpec.reads g.T.AsyncBufRead.buffer_of g.O.WriteSpec.writes
          g.S.Service.answers (config_of c.loop.connection) all.2 _ _ t.0 _ (Err c.in_err-turn.field-0.0) refl t.1,
    )

pub returns-then-not-branch-clause-served : goal.returns-then-not-branch-clause-served
returns-then-not-branch-clause-served g c =
    let all = c.loop.invariant in
    let is : c.turn.result ≡ Ok false = search rules in
    let t = c.turn.ensures.turned in (
      all.3,
      _,
      t.0,
      all.4,
      finished (config_of c.args.connection.now) g.T.ReadSpec.reads g.T.AsyncBufRead.buffer_of g.O.WriteSpec.writes
          g.S.Service.answers _ _ t.0 c.outcome.result
          (turned (config_of c.args.connection.now) g.T.ReadSpec.reads g.T.AsyncBufRead.buffer_of g.O.WriteSpec.writes
          g.S.Service.answers (config_of c.loop.connection) all.2 _ _ t.0 _ (Ok false) is t.1) c.outcome.ensures,
    )

pub returns-in_err-turn-clause-whole : goal.returns-in_err-turn-clause-whole
returns-in_err-turn-clause-whole g c =
    serves_whole (config_of c.args.connection.now) g.T.ReadSpec.reads g.T.AsyncBufRead.buffer_of g.O.WriteSpec.writes g.S.Service.answers
    g.T.ReadSpec.read_laws g.O.WriteSpec.write_laws
    (record { reader = c.args.reader.now; writer = c.args.writer.now; service = c.args.service.now; history = history c.args.connection.now })
    (record { reader = c.turn.new.reader; writer = c.turn.new.writer; service = c.turn.new.service; history = history c.turn.new.connection })
    c.from_residual.result (returns-in_err-turn-clause-served g c)

pub returns-then-not-branch-clause-whole : goal.returns-then-not-branch-clause-whole
returns-then-not-branch-clause-whole g c =
    serves_whole (config_of c.args.connection.now) g.T.ReadSpec.reads g.T.AsyncBufRead.buffer_of g.O.WriteSpec.writes g.S.Service.answers
    g.T.ReadSpec.read_laws g.O.WriteSpec.write_laws
    (record { reader = c.args.reader.now; writer = c.args.writer.now; service = c.args.service.now; history = history c.args.connection.now })
    (record { reader = c.turn.new.reader; writer = c.turn.new.writer; service = c.turn.new.service; history = history c.turn.new.connection })
    c.outcome.result (returns-then-not-branch-clause-served g c)

pub loop-preserved : goal.loop-preserved
loop-preserved g c =
    let all = c.loop.invariant in
    let is : c.turn.result ≡ Ok true = search rules in
    let t = c.turn.ensures.turned in
    let step = turned (config_of c.args.connection.now) g.T.ReadSpec.reads g.T.AsyncBufRead.buffer_of g.O.WriteSpec.writes
    g.S.Service.answers (config_of c.loop.connection) all.2 _ _ t.0 _ (Ok true) is t.1 in (
      tt,
      tt,
      search rules,
      all.3 ++ t.0 ∷ [],
      stepped (config_of c.args.connection.now) g.T.ReadSpec.reads g.T.AsyncBufRead.buffer_of
          g.O.WriteSpec.writes g.S.Service.answers _ _ _ all.3 t.0 all.4 step,
    )
