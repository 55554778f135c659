use Rattle.lite_read.specs.Scan.{LineGoesOn}
use Rattle.lite_read.proofs.scan.scan_rest.Given as goal

abbrev pub invariant-loop-i : goal.invariant-loop-i
invariant-loop-i l = LineGoesOn l.i l.ascii l.bytes
