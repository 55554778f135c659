use Rattle.std.proofs.Common.{◌≡◌, ◌+◌, ◌≤◌, drop}
use Rattle.example_redis.specs.Commands.{delete_all, texts}
use Rattle.example_redis.specs.Store.{held}
use Rattle.example_redis.proofs.store.Store.answer_delete.Given as goal

abbrev pub invariant-loop-key : goal.invariant-loop-key
invariant-loop-key l = record {
  few : l.count ≤ l.key-index;
  total : (delete_all (held l.fn.self) (texts l.words)).0 ≡ l.count + (delete_all (held l.self) (texts (drop l.key-index l.words))).0;
  left : (delete_all (held l.fn.self) (texts l.words)).1 ≡ (delete_all (held l.self) (texts (drop l.key-index l.words))).1;
}
