use Rattle.std.proofs.Common.{◌∙◌, arith}
use Rattle.std.proofs.lemmas.List.{nil_from_length}
use Rattle.example_redis.specs.Laws.Taking.{all_taken}
use Rattle.example_redis.proofs.requests.Requests.take_words.Goals as goal

pub returns : goal.returns
returns c =
    let t = c.loop-self in
    let (m, fits, room, words, bytes) =
    all_taken c.args.self.now t.self c.args.src.now.items t.src.items record { words = c.replace-words.result } t.invariant (omega arith)
    c.replace-words.ensures.value in
    ((t.invariant.0, omega arith, t.invariant.3 ∙ nil_from_length c.args.self.now.line.items c.requires), m, fits, room, words, bytes)
