use Rattle.std.proofs.Common.{arith, refl}
use Rattle.example_redis.specs.Laws.Words.{no_feed, no_return, return_last, word_short, word_whole}
use Rattle.example_redis.proofs.word.end_word.Goals as goal

pub returns-then-bytes-end : goal.returns-then-bytes-end
returns-then-bytes-end c =
    let place = c.args.place in
    word_short c.args.bytes.now place.len place.start (omega arith) c.requires.line (omega arith)

pub returns-then-bytes-end-ne13 : goal.returns-then-bytes-end-ne13
returns-then-bytes-end-ne13 c =
    let place = c.args.place in
    no_return c.args.bytes.now place.len place.start (omega arith) c.requires.line (omega arith) c.if-bytes-end-ne13.true

pub returns-then-bytes-end-2 : goal.returns-then-bytes-end-2
returns-then-bytes-end-2 c =
    let place = c.args.place in
    return_last c.args.bytes.now place.len place.start (omega arith) c.requires.line (omega arith) c.if-bytes-end-ne13.false (omega arith)

pub returns-then-bytes-end-ne10 : goal.returns-then-bytes-end-ne10
returns-then-bytes-end-ne10 c =
    let place = c.args.place in
    no_feed c.args.bytes.now place.len place.start (omega arith) c.requires.line (omega arith) c.if-bytes-end-ne10.true

pub returns : goal.returns
returns c =
    let place = c.args.place in
    let (word, rest, is, long, front) =
    word_whole c.args.bytes.now place.len place.start (omega arith) c.requires.line (omega arith) c.if-bytes-end-ne13.false (omega arith)
    c.if-bytes-end-ne10.false in
    (refl, word, rest, is, long, front)
