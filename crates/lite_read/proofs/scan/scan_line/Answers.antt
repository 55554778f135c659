use Rattle.lite_read.specs.Uses.{arith}
use Rattle.lite_read.proofs.FirstLine.{ends_on, goes_on}
use Rattle.lite_read.proofs.scan.scan_line.Goals as goal

pub returns-then-line-lt-LANES : goal.returns-then-line-lt-LANES
returns-then-line-lt-LANES c =
    let ends = ends_on c.loop-at.invariant c.loop-at-test.true c.line_run-line.ensures c.ascii_run.ensures
    (omega (arith, c.if-line-lt-LANES.true)) in
    record { newline = ends.0; ascii = ends.1 }

pub past_plain-at-requires : goal.past_plain-at-requires
past_plain-at-requires c =
    rw c.if-ascii.true at (goes_on c.loop-at.invariant c.loop-at-test.true c.line_run-line.ensures c.ascii_run.ensures
    (omega (arith, c.if-line-lt-LANES.false)))

pub loop-at-preserved : goal.loop-at-preserved
loop-at-preserved c =
    goes_on c.loop-at.invariant c.loop-at-test.true c.line_run-line.ensures c.ascii_run.ensures
    (omega (arith, c.if-line-lt-LANES.false))
