use Rattle.std.proofs.Common.{rules, ◌≡◌, false}
use Rattle.example_redis.specs.Laws.Commands.{set_refused}
use Rattle.example_redis.specs.Store.{fits, held, put}
use Rattle.example_redis.proofs.store.Store.set_or_refuse.Goals as goal

pub returns : goal.returns
returns c =
    let h = held c.args.self.now in
    let full : fits (put h c.args.key.now c.args.value.now) ≡ false = search rules in
    set_refused h (held c.set.new.self) c.args.key.now c.args.value.now c.error.result full
    (c.in_ok-set.ensures.full c.if-branch.false) (c.error.ensures h)
