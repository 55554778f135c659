use Rattle.std.specs.Prelude.{◌==◌}
use Rattle.lite_read.specs.Uses.{zip2_splat, length-chunk, ◌∙◌, arith, refl}
use lib.Lanes.{chunk}
use Rattle.lite_read.proofs.Lanes.{run_of}
use Rattle.lite_read.proofs.scan.line_run.Goals as goal

pub returns : goal.returns
returns c =
    let long = length-chunk c.args.at 32 c.args.bytes.now c.requires in
    c.first_set.ensures
    ∙ run_of (λ b. b == 10) c.args.bytes.now c.args.at 32 _ (omega arith) c.requires
    (zip2_splat _ (chunk c.args.at 32 c.args.bytes.now) 32 10 long) refl
