use Rattle.std.specs.Prelude.{◌≡◌}
use Rattle.http_server.specs.Connection.{config_of, history}
use Rattle.http_server.specs.History.{new_history}
use Rattle.example_http.proofs.Talks.{conversation}
use Rattle.example_http.proofs.session.serve_session.Goals as goal

pub returns : goal.returns
returns g c =
    let w = c.serve_http.ensures.whole in
    let new : history c.new-connection.result ≡ new_history = c.new-connection.ensures.history in
    let whole = conversation _ (config_of c.new-connection.result) g.T.ReadSpec.reads g.O.WriteSpec.writes g.S.Service.answers _ _
    w.0 c.serve_http.result c.new-connection.ensures.config new w.1 in
    (w.0, w.1.read, w.1.wrote, whole)
