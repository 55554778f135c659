use Rattle.std.proofs.Common.{List}
use Rattle.framed.specs.Serving.{ServesEach}
use Rattle.framed.proofs.server.serve.Given as goal

abbrev pub invariant-loop : goal.invariant-loop
invariant-loop g l =
    g.T.CountedRead.ranks.counts l.requests.reader
    × (done : List g.row.S-Request.Denot)
    × ServesEach g.D.Decoder.gives g.S.Error.From.from_gives g.T.ReadSpec.reads g.T.AsyncBufRead.buffer_of g.O.WriteSpec.writes
    g.E.Encoder.encodes g.E.Encoder.refuses g.S.Service.answers g.S.Service.refuses
    (record { requests = l.fn.requests; replies = l.fn.replies; encoder = l.fn.encoder; service = l.fn.service }) done
    (record { requests = l.requests; replies = l.replies; encoder = l.encoder; service = l.service })
