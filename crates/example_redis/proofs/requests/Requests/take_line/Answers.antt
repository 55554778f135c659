use Rattle.std.proofs.Common.{◌∙◌, ap}
use Rattle.example_redis.specs.Bytes.{line_words}
use Rattle.example_redis.specs.Laws.Lines.{line_more, line_whole}
use Rattle.example_redis.proofs.requests.Requests.take_line.Goals as goal

pub returns-then-not-branch : goal.returns-then-not-branch
returns-then-not-branch c =
    let t = c.take_text.new in
    let (kept, none) = rw c.if-not-branch.true at c.in_ok-take_text.ensures in
    line_more c.args.self.now t.self c.args.src.now.items t.src.items kept c.requires.closed none

pub returns : goal.returns
returns c =
    let t = c.take_text.new in
    let (kept, rest, feed) = rw c.if-not-branch.false at c.in_ok-take_text.ensures in
    let (m, good, room, words, is) =
    line_whole c.args.self.now t.self c.args.src.now.items t.src.items kept c.requires.closed record { words = c.in_ok-words.words } rest
    c.advance.new.self.items feed c.advance.ensures.items (c.in_ok-words.ensures ∙ ap line_words c.as_slice.ensures.value) in
    ((kept.0, kept.1 ∙ c.requires.closed, c.clear.ensures.items), m, good, room, words, is)
