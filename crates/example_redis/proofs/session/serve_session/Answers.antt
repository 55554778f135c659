use Rattle.example_redis.specs.Laws.Session.{session_of, session_stopped}
use Rattle.example_redis.proofs.session.serve_session.Goals as goal

pub returns : goal.returns
returns g c =
    record {
      ends = c.serve.ensures.served;
      whole = session_of g.T.AsyncBufRead.buffer_of g.T.ReadSpec.read_laws g.O.WriteSpec.write_laws _ _ c.serve.result
          c.requires.fresh c.serve.ensures.served;
      stopped = session_stopped g.T.AsyncBufRead.buffer_of g.T.ReadSpec.read_laws g.O.WriteSpec.write_laws _ _ c.serve.result
          c.requires.fresh c.serve.ensures.served;
    }
