use Rattle.lite_read.specs.Uses.{arith}
use Rattle.lite_read.specs.Laws.Segments.{flow_keeps}
use Rattle.lite_read.specs.Split.{PieceLacksRoom, split_over}
use Rattle.lite_read.proofs.Refusals.{flow_full, flow_weaker}
use Rattle.lite_read.proofs.split.SplitStream.poll_next.Goals as goal

pub returns-clause-full : goal.returns-clause-full
returns-clause-full g c =
    flow_full g.R.ReadSpec.read_laws (PieceLacksRoom g.R.AsyncBufRead.buffer_of)
    (λ x y z same room full. omega (arith, room, rw same at full)) c.drive.ensures.stepped

pub returns-clause-ran : goal.returns-clause-ran
returns-clause-ran g c = flow_weaker _ _ _ _ _ (λ full. tt) (returns-clause-full g c)

pub returns-clause-again : goal.returns-clause-again
returns-clause-again g c =
    flow_keeps split_over _ g.R.ReadSpec.read_laws g.R.CountedRead.ranks.counts g.met.R.CountedRead.counting.counts_on
    _ _ _ c.requires (returns-clause-full g c)
