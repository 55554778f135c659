use Rattle.std.proofs.Common.{◌≡◌, ◌++◌, length, take}
use Rattle.std.specs.List.{flat_map}
use Rattle.example_redis.specs.Replies.{reply_bytes}
use Rattle.example_redis.proofs.reply.+append.Given as goal

abbrev pub invariant-loop-inner : goal.invariant-loop-inner
invariant-loop-inner l = record {
  written : l.dst.items ≡ l.initial.dst.items ++ flat_map reply_bytes (take l.inner-index l.inner-items);
  kept : take (length l.fn.dst.items) l.dst.items ≡ l.fn.dst.items;
}
