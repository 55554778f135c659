use Rattle.std.proofs.Common.{◌-◌, drop, length, take}
use Rattle.example_redis.specs.Laws.Taking.{line_begun, line_hopeless}
use Rattle.example_redis.specs.Laws.Words.{first_and_others}
use Rattle.example_redis.proofs.front.read_front.Goals as goal

pub returns-in-More : goal.returns-in-More
returns-in-More c =
    let bytes = c.args.bytes.now in
    let first = first_and_others 42 bytes c.requires.some c.requires.array in
    let (n, more, low, small, any, is) = c.in-More.ensures in
    line_begun c.args.limits bytes (take (length bytes - 1) (drop 1 bytes)) first n more low small any is

pub returns-in-Malformed : goal.returns-in-Malformed
returns-in-Malformed c =
    let bytes = c.args.bytes.now in
    let first = first_and_others 42 bytes c.requires.some c.requires.array in
    line_hopeless c.args.limits bytes (take (length bytes - 1) (drop 1 bytes)) first c.in-Malformed.ensures
