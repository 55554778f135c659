use Rattle.std.proofs.Common.{◌≡◌, List}
use Rattle.std.specs.List.{FoldsTo}
use Rattle.http_server.specs.Connection.{config_of, history}
use Rattle.example_http.specs.Moving.{Moved}
use Rattle.example_http.specs.Serving.{HttpStep}
use Rattle.example_http.proofs.server.serve_http.Given as goal

-- whole steps were taken
abbrev pub invariant-loop : goal.invariant-loop
invariant-loop g l =
    (goal.iterator-loop g).can_next l.iterator' × (goal.iterator-loop g).is_finite l.iterator'
    × (config_of l.connection ≡ config_of l.fn.connection)
    × (steps : List Moved) × FoldsTo (HttpStep (config_of l.fn.connection) g.T.ReadSpec.reads g.T.AsyncBufRead.buffer_of
    g.O.WriteSpec.writes g.S.Service.answers)
    (record { reader = l.fn.reader; writer = l.fn.writer; service = l.fn.service; history = history l.fn.connection }) steps
    (record { reader = l.reader; writer = l.writer; service = l.service; history = history l.connection })
