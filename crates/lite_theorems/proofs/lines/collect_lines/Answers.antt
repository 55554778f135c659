use Rattle.lite_theorems.specs.Uses.{arith}
use Rattle.lite_theorems.proofs.lines.collect_lines.Goals as goal

pub returns-clause-lines : goal.returns-clause-lines
returns-clause-lines g c =
    let buffer = c.«in_ok-buffered».ensures in
    rw (buffer.inner, buffer.empty) at (c.collect_buffered_lines.ensures.lines (rw buffer.capacity (omega arith)))
