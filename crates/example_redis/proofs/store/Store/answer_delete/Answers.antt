use Rattle.std.proofs.Common.{rules, ◌≡◌, arith, drop, length, pos}
use Rattle.std.proofs.lemmas.List.{drop_all}
use Rattle.example_redis.specs.Commands.{Said, said}
use Rattle.example_redis.specs.Laws.Commands.{delete_right}
use Rattle.example_redis.specs.Store.{held}
use Rattle.example_redis.proofs.store.Store.answer_delete.Goals as goal

pub returns : goal.returns
returns c name =
    let words = c.args.words.now in
    let rest = drop c.loop-key.key-index words in
    let some : length words ≡ 0 → ⊥ = search rules in
    let reply : said c.reply.result.reply ≡ Said.number (pos c.loop-key.count) = search rules in
    delete_right (held c.args.self.now) (held c.loop-key.self) name words rest c.loop-key.count c.reply.result some
    (drop_all c.loop-key.key-index words (omega arith)) c.loop-key.invariant.total c.loop-key.invariant.left reply c.reply.ensures.goes_on
