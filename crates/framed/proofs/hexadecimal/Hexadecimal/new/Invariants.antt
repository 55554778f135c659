use Rattle.std.proofs.Common.{◌+◌, ◌≡◌, ◌<◌, ◌≤◌, ◌^◌, drop, false, length}
use Rattle.std.specs.Fmt.{digits_onto}
use Rattle.framed.specs.Hexadecimal.{hexadecimal}
use Rattle.framed.proofs.hexadecimal.Hexadecimal.new.Given as goal

abbrev pub invariant-loop-left : goal.invariant-loop-left
invariant-loop-left l =
    (length l.digits ≡ 16) × (1 ≤ l.start) × (l.start ≤ 16) × (l.left < 16 ^ l.start)
    × (digits_onto (l.start + 48) 16 false l.left (drop l.start l.digits) ≡ hexadecimal l.number)

abbrev pub decreases-loop-left : goal.decreases-loop-left
decreases-loop-left l = l.left
