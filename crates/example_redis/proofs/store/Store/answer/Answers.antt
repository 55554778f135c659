use Rattle.std.proofs.Common.{rules, ◌≡◌, false, length}
use Rattle.example_redis.specs.Commands.{takes}
use Rattle.example_redis.specs.Laws.Commands.{not_taken}
use Rattle.example_redis.specs.Store.{held}
use Rattle.example_redis.proofs.store.Store.answer.Goals as goal

pub returns-then-not-takes : goal.returns-then-not-takes
returns-then-not-takes c =
    let h = held c.args.self.now in
    let other : takes c.args.verb (length c.args.words.now) ≡ false = search rules in
    not_taken h h c.args.name.now c.args.verb c.args.words.now c.wrong_count.result other (c.wrong_count.ensures h)
