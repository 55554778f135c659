use Rattle.framed.specs.ComingBack.{collects_back}
use Rattle.framed.proofs.make.send_all.Goals as goal

pub returns-clause-back : goal.returns-clause-back
returns-clause-back g c =
    collects_back g.E.Encoder.encodes g.E.Decoder.Decoder.gives g.E.Decoder.Error.From.from_gives g.E.RoundTrip.readable
    g.E.RoundTrip.means g.met.E.RoundTrip.back g.met.E.Decoder.Decoder.stable _ _ _
