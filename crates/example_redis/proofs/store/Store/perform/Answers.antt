use Rattle.std.proofs.Common.{rules, ◌≡◌, length}
use Rattle.example_redis.specs.Laws.Commands.{performed}
use Rattle.example_redis.specs.Store.{held}
use Rattle.example_redis.proofs.store.Store.perform.Goals as goal

pub returns : goal.returns
returns c =
    let words = c.args.words.now in
    let some : length words ≡ 0 → ⊥ = search rules in
    performed (held c.args.self.now) (held c.answer_or_refuse.new.self) words c.index-words-0.result c.as_slice-name.result.now
    c.in_ok-verb.verb c.answer_or_refuse.result some c.index-words-0.is c.as_slice-name.ensures.value c.in_ok-verb.ensures
    c.answer_or_refuse.ensures
