use Rattle.lite_read.specs.Uses.{arith}
use Rattle.lite_read.proofs.FirstLine.{plain_more}
use Rattle.lite_read.proofs.scan.past_plain.Goals as goal

pub loop-at-preserved : goal.loop-at-preserved
loop-at-preserved c =
    let more = plain_more c.args.bytes.now c.loop-at.at 64 c.loop-at.invariant.1
    (c.is_plain.ensures c.if-is_plain.true) in
    (omega (arith, c.loop-at.invariant.0), more)
