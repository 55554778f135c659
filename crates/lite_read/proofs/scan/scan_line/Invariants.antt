use Rattle.std.specs.Prelude.{◌-◌, length}
use Rattle.lite_read.specs.Scan.{LineGoesOn}
use Rattle.lite_read.proofs.scan.scan_line.Given as goal

abbrev pub invariant-loop-at : goal.invariant-loop-at
invariant-loop-at l = LineGoesOn l.at l.ascii l.bytes

abbrev pub decreases-loop-at : goal.decreases-loop-at
decreases-loop-at l = length l.bytes - l.at
