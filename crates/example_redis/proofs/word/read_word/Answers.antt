use Rattle.std.proofs.Common.{rules, ◌≡◌, ◌<◌, ◌-◌, arith, drop, length, take}
use Rattle.example_redis.specs.Laws.Words.{first_and_others, line_begun, no_line_no_word, word_begun, word_by_end}
use Rattle.example_redis.proofs.word.read_word.Goals as goal

pub returns-then-is_empty : goal.returns-then-is_empty
returns-then-is_empty c =
    let none : length c.args.bytes.now ≡ 0 = search rules in
    word_begun c.args.bytes.now c.args.limits.word c.args.room none

pub returns-in-More : goal.returns-in-More
returns-in-More c =
    let bytes = c.args.bytes.now in
    let some : 0 < length bytes = search rules in
    let first = first_and_others 36 bytes some c.if-bytes-ne36.false in
    let (n, more, low, small, some, is) = c.in-More.ensures in
    line_begun bytes (take (length bytes - 1) (drop 1 bytes)) more c.args.limits.word c.args.room n first low small some is

pub returns-in-Malformed : goal.returns-in-Malformed
returns-in-Malformed c =
    let bytes = c.args.bytes.now in
    let some : 0 < length bytes = search rules in
    let first = first_and_others 36 bytes some c.if-bytes-ne36.false in
    no_line_no_word bytes (take (length bytes - 1) (drop 1 bytes)) first c.in-Malformed.ensures

pub returns-else-place-room : goal.returns-else-place-room
returns-else-place-room c =
    let (low, small, rest, size, is) = c.in-Whole.ensures in
    word_by_end c.args.limits c.args.room _ c.args.bytes.now c.end_word.result low small (omega arith) (omega arith) c.end_word.ensures
