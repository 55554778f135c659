use Rattle.framed.specs.FrameLaws.{frame_counts, frame_ran}
use Rattle.framed.proofs.Steps.{polled_once}
use Rattle.framed.proofs.framed_read.FramedReadStream.poll_next.Goals as goal

pub returns-clause-ran : goal.returns-clause-ran
returns-clause-ran g c =
    polled_once g.D.Decoder.gives g.D.Error.From.from_gives g.T.ReadSpec.reads g.T.ReadSpec.read_laws
    g.met.D.Decoder.partial_has_no_frame _ _ _ c.drive.ensures.stepped

pub returns-clause-again : goal.returns-clause-again
returns-clause-again g c =
    frame_counts g.D.Decoder.gives g.D.Error.From.from_gives g.T.ReadSpec.reads g.met.T.CountedRead.counting _ _ _ c.requires
    (frame_ran g.D.Decoder.gives g.D.Error.From.from_gives g.T.ReadSpec.reads g.T.ReadSpec.read_laws
    g.met.D.Decoder.partial_has_no_frame c.drive.ensures.stepped)
