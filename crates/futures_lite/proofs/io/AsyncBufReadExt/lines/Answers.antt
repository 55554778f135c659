use Rattle.std.specs.Prelude.{string_bytes}
use Rattle.futures_lite.specs.Uses.{refl, lines_over, pieces_listed}
use Rattle.lite_io_base.specs.Runs.{without_return}
use Rattle.futures_lite.proofs.io.AsyncBufReadExt.lines.Goals as goal

pub returns-clause-read : goal.returns-clause-read
returns-clause-read g c knows =
    let e = c.lines.ensures in
    rw (← e.reader)
    (pieces_listed 10 _ _ without_return string_bytes (λ xs x h. h)
    (λ xs x h. h) lines_over _ g.Self.ReadSpec.reads g.Self.ReadSpec.known _ refl
    e.empty (rw e.reader knows))
