use Rattle.framed.proofs.Sent.{sent_items}
use Rattle.framed.specs.ComingBack.{collects_back}
use Rattle.framed.proofs.waiting.wait_send_all.Goals as goal

pub returns-clause-sent : goal.returns-clause-sent
returns-clause-sent g c =
    sent_items g.E.Error.From.from_gives g.O.WriteSpec.writes g.E.Encoder.encodes g.E.Encoder.refuses
    _ _ _ _ _ _ _ _ _ c.encode_all-encoded.ensures c.send_encoded.ensures

pub returns-clause-back : goal.returns-clause-back
returns-clause-back g c =
    collects_back g.E.Encoder.encodes g.E.Decoder.Decoder.gives g.E.Decoder.Error.From.from_gives g.E.RoundTrip.readable
    g.E.RoundTrip.means g.met.E.RoundTrip.back g.met.E.Decoder.Decoder.stable _ _ _
