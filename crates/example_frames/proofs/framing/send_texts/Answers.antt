use Rattle.example_frames.proofs.Back.{sent_back}
use Rattle.example_frames.proofs.framing.send_texts.Goals as goal

pub returns : goal.returns
returns g c =
    sent_back g.O.WriteSpec.writes g.O.WriteSpec.stored _ _ c.args.codec _ c.args.texts.items _ _ _ _ _ c.requires
    c.wait_send_all.ensures.sent
