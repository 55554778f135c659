use Rattle.std.specs.Prelude.{◌≢◌, []}
use Rattle.std.proofs.Common.{rules}
use Rattle.http_server.specs.Connection.{history}
use Rattle.example_http.proofs.Receiving.{refilled_taken}
use Rattle.example_http.proofs.moves.read_more.Goals as goal

pub take_shown-requires : goal.take_shown-requires
take_shown-requires g c =
    let some : g.T.AsyncBufRead.buffer_of c.args.reader.now ≢ [] = (λ empty. search (rules, empty)) in
    record { going = c.requires; shown = some }

pub returns-clause-received : goal.returns-clause-received
returns-clause-received g c =
    let f = c.in_ok-refill.ensures in
    refilled_taken g.T.ReadSpec.reads g.T.AsyncBufRead.buffer_of g.O.WriteSpec.writes g.T.ReadSpec.read_laws c.args.reader.now
    c.refill.new.reader c.take_in.new.reader c.args.writer.now c.refill.new.writer (history c.args.connection.now)
    (history c.take_in.new.connection) f.0 tt c.take_in.result f.1 c.take_in.ensures.taken
