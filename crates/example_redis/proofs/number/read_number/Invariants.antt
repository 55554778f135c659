use Rattle.std.proofs.Common.{◌≡◌, ◌<◌, ◌≤◌, decimal, take}
use Rattle.example_redis.proofs.number.read_number.Given as goal

abbrev pub invariant-loop-index : goal.invariant-loop-index
invariant-loop-index l = record {
  low : l.number ≤ l.max;
  none : l.index ≡ 0 → l.number ≡ 0;
  digits : 0 < l.index → take l.index l.bytes ≡ decimal l.number;
}
