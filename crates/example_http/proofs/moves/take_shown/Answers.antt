use Rattle.http_server.specs.Connection.{history}
use Rattle.example_http.proofs.Receiving.{shown_refused, shown_taken, shown_unflushed}
use Rattle.example_http.proofs.moves.take_shown.Goals as goal

pub returns-in-Ok-clause-received : goal.returns-in-Ok-clause-received
returns-in-Ok-clause-received g c =
    shown_taken g.T.ReadSpec.reads g.T.AsyncBufRead.buffer_of g.O.WriteSpec.writes g.T.ReadSpec.read_laws c.args.reader.now
    c.take_in.new.reader c.args.writer.now (history c.args.connection.now) (history c.take_in.new.connection) tt c.requires.shown
    c.in-Ok.ensures.taken

pub returns-in-Ok-flush-clause-received : goal.returns-in-Ok-flush-clause-received
returns-in-Ok-flush-clause-received g c =
    let f = c.in-Ok-flush.ensures in
    shown_refused g.T.ReadSpec.reads g.T.AsyncBufRead.buffer_of g.O.WriteSpec.writes g.T.ReadSpec.read_laws c.args.reader.now
    c.take_in.new.reader c.args.writer.now c.flush.new.writer (history c.args.connection.now) (history c.take_in.new.connection)
    f.0 c.in-Err.refused c.in-Err.ensures.taken f.1

pub returns-in-Err-flush-clause-received : goal.returns-in-Err-flush-clause-received
returns-in-Err-flush-clause-received g c =
    let f = c.in-Err-flush.ensures in
    shown_unflushed g.T.ReadSpec.reads g.T.AsyncBufRead.buffer_of g.O.WriteSpec.writes g.T.ReadSpec.read_laws c.args.reader.now
    c.take_in.new.reader c.args.writer.now c.flush.new.writer (history c.args.connection.now) (history c.take_in.new.connection)
    f.0 c.in-Err.refused c.in-Err-flush.e c.in-Err.ensures.taken f.1
