use Rattle.example_lines.specs.Store.{stored}
use Rattle.example_lines.proofs.store.Store.perform.Goals as goal

pub returns-in_ok-set-in-Set : goal.returns-in_ok-set-in-Set
returns-in_ok-set-in-Set c =
    let said = c.in_ok-answer-in-Set.ensures (stored c.args.self.now) in
    rw c.in-Set.is (said.0, said.1, c.in_ok-set-in-Set.ensures.set)

pub returns-in_ok-answer-in-Delete : goal.returns-in_ok-answer-in-Delete
returns-in_ok-answer-in-Delete c =
    let said = c.in_ok-answer-in-Delete.ensures (stored c.args.self.now) in
    rw c.in-Delete.is (said.0, said.1, c.delete.ensures.gone)

pub returns-in-Malformed : goal.returns-in-Malformed
returns-in-Malformed c = rw c.in-Malformed.is (c.say-in-Malformed.ensures (stored c.args.self.now))

pub returns-in-Unknown : goal.returns-in-Unknown
returns-in-Unknown c = rw c.in-Unknown.is (c.say-in-Unknown.ensures (stored c.args.self.now))

pub returns-in-Web : goal.returns-in-Web
returns-in-Web c = rw c.in-Web.is (c.say_last-in-Web.ensures (stored c.args.self.now))
