use Rattle.std.proofs.Common.{◌-◌, take}
use Rattle.std.specs.List.{AllByRecursion}
use Rattle.example_redis.specs.Replies.{IsEncodable}
use Rattle.example_redis.proofs.reply.+check.Given as goal

abbrev pub invariant-loop-inner : goal.invariant-loop-inner
invariant-loop-inner l = AllByRecursion (IsEncodable (l.depth - 1)) (take l.inner-index l.inner-items)
