use Rattle.std.specs.Prelude.{vec_capacity}
use Rattle.lite_theorems.specs.Uses.{ap, rules, ◌∙◌}
use Rattle.lite_theorems.proofs.LimitedPiece.{taken_lent, told_of_taken}
use Rattle.lite_theorems.proofs.waits.wait_read_until_limited.Goals as goal

pub returns-clause-told : goal.returns-clause-told
returns-clause-told g c =
    let made = c.take.ensures in
    let told = c.wait_read_until.ensures.told in
    let lends = taken_lent g.T.ReadSpec.reads _ _ c.args.byte told.0 told.2 ∙ ap (λ b. b.ghost_name) made.inner in
    told_of_taken g.T.ReadSpec.reads _ _ c.args.byte g.T.AsyncBufRead.buffer_of (vec_capacity c.args.buf.now) c.args.buf.now.items _
    c.wait_read_until.result _ c.args.limit _ made.inner made.limit (search rules) told
