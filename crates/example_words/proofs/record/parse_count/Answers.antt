use Rattle.std.proofs.Common.{arith, rules}
use Rattle.example_words.proofs.Refusals.{not_digits, not_text, read_back}
use Rattle.example_words.proofs.record.parse_count.Goals as goal
use Rattle.example_words.proofs.record.parse_count.Goals.{else-count-gt0-via-then-count-gt0+else-eq, else-count-gt0-via-else-count-gt0}

pub returns-in_default-clause-refused : goal.returns-in_default-clause-refused
returns-in_default-clause-refused c = not_text c.args.digits.now c.in_default.ensures.cases.0

pub returns-in-Err-2-clause-refused : goal.returns-in-Err-2-clause-refused
returns-in-Err-2-clause-refused c = not_digits c.args.digits.now c.if-is_number.ensures

pub returns-else-count-gt0-clause-refused : goal.returns-else-count-gt0-clause-refused
returns-else-count-gt0-clause-refused c n some small e =
    let read = rw c.in-Ok.ensures.cases.0 at c.in-Ok-parse.ensures.value.0 in
    let same = read_back c.args.digits.now c.in-Ok-parse.count n small e read in
    elim c.else-count-gt0.branch [
      | else-count-gt0-via-then-count-gt0+else-eq w ↦ search (rules, same)
      | else-count-gt0-via-else-count-gt0 w ↦ absurd (omega (arith, w.if-count-gt0.false, some, same))
    ]
