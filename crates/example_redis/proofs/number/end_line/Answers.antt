use Rattle.std.proofs.Common.{[], ◌∷◌, arith, drop, ◌+◌}
use Rattle.example_redis.specs.Laws.Numbers.{feed_follows, line_length, other_end, whole_line}
use Rattle.example_redis.proofs.number.end_line.Goals as goal

pub returns-then-place-bytes : goal.returns-then-place-bytes
returns-then-place-bytes c =
    let r = c.requires in
    let whole = feed_follows c.args.bytes.now c.args.place c.args.number r.within r.digits r.behind (omega arith) in
    (c.args.number, 10 ∷ [], r.low, omega arith, omega arith, whole)

pub returns-then-bytes-place-ne10 : goal.returns-then-bytes-place-ne10
returns-then-bytes-place-ne10 c =
    let r = c.requires in
    other_end c.args.bytes.now c.args.place c.args.number r.within r.digits r.behind (omega arith) (omega arith) c.if-bytes-place-ne10.true

pub returns : goal.returns
returns c =
    let r = c.requires in (
      r.low,
      omega arith,
      drop (c.args.place + 1 + 1) c.args.bytes.now,
      line_length c.args.bytes.now c.args.place c.args.number r.within r.digits r.behind,
      whole_line c.args.bytes.now c.args.place c.args.number r.within r.digits r.behind (omega arith) c.if-bytes-place-ne10.false,
    )
