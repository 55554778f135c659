use Rattle.std.specs.Prelude.{◌-◌, ◌≤◌, length}
use Rattle.lite_read.specs.Scan.{IsPlain}
use Rattle.lite_read.proofs.scan.past_plain.Given as goal

abbrev pub invariant-loop-at : goal.invariant-loop-at
invariant-loop-at l = (l.fn.at ≤ l.at) × IsPlain l.at l.bytes

abbrev pub decreases-loop-at : goal.decreases-loop-at
decreases-loop-at l = length l.bytes - l.at
