use Rattle.std.proofs.Common.{refl}
use Rattle.example_lines.proofs.Sessions.{session_ended}
use Rattle.example_lines.proofs.session.serve_session.Goals as goal

pub returns : goal.returns
returns g c =
    record {
      ends = (_, c.new-store.ensures, _, _, refl, _, c.serve.ensures.served);
      said = session_ended g.T.ReadSpec.reads g.T.AsyncBufRead.buffer_of g.O.WriteSpec.writes _ g.T.ReadSpec.read_laws g.O.WriteSpec.write_laws _ _
          c.requires.fresh.0 c.requires.fresh.1 c.new-store.ensures c.serve.result c.serve.ensures.served;
    }
