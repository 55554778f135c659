use Rattle.example_redis.specs.Laws.Commands.{set_both, set_many}
use Rattle.example_redis.specs.Store.{held}
use Rattle.example_redis.proofs.store.Store.answer_set.Goals as goal

pub returns-then-words-gt2 : goal.returns-then-words-gt2
returns-then-words-gt2 c name =
    let h = held c.args.self.now in
    set_many h h name c.error.result c.args.words.now c.if-words-gt2.true (c.error.ensures h)

pub returns : goal.returns
returns c name =
    let done = rw (c.deref.ensures.value, c.deref-2.ensures.value) at c.set_or_refuse.ensures in
    set_both (held c.args.self.now) (held c.set_or_refuse.new.self) name c.index-words-0.result c.index-words-1.result c.set_or_refuse.result
    c.args.words.now c.requires c.if-words-gt2.false c.index-words-0.is c.index-words-1.is done
