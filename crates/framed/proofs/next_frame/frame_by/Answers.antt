use Rattle.std.proofs.Common.{rules}
use Rattle.framed.specs.Uses.{Ready, ToldStripped}
use Rattle.framed.specs.Frames.{FrameStep}
use Rattle.framed.specs.ToldLaws.{told_counting}
use Rattle.framed.proofs.Waits.{at_value, frame_waited}
use Rattle.framed.proofs.next_frame.frame_by.Goals as goal

pub returns-clause-told : goal.returns-clause-told
returns-clause-told g c =
    let h = frame_waited g.D.Decoder.gives g.D.Error.From.from_gives g.T.ReadSpec.reads g.met.D.Decoder.partial_has_no_frame
    g.T.ReadSpec.read_laws _ _ c.wait.result (rw c.next.ensures at c.wait.ensures) in
    let lends = h.1 in
    at_value (FrameStep g.D.Decoder.gives g.D.Error.From.from_gives (ToldStripped g.T.ReadSpec.reads) c.args.framed.now
    (Ready c.wait.result)) h.0 (search rules)

pub returns-clause-again : goal.returns-clause-again
returns-clause-again g c =
    let h = frame_waited g.D.Decoder.gives g.D.Error.From.from_gives g.T.ReadSpec.reads g.met.D.Decoder.partial_has_no_frame
    g.T.ReadSpec.read_laws _ _ c.wait.result (rw c.next.ensures at c.wait.ensures) in
    let lends = h.1 in
    let counts = told_counting g.D.Decoder.gives g.D.Error.From.from_gives g.T.ReadSpec.reads g.met.T.CountedRead.counting
    _ _ _ c.requires h.0 in
    search rules
