use Rattle.framed.proofs.Sent.{sent_one}
use Rattle.framed.proofs.waiting.wait_send.Goals as goal

pub returns : goal.returns
returns g c =
    sent_one g.E.Error.From.from_gives g.O.WriteSpec.writes g.E.Encoder.encodes g.E.Encoder.refuses
    _ _ _ _ _ _ _ _ _ c.encode_one-encoded.ensures c.send_encoded.ensures
