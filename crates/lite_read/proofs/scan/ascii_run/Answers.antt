use Rattle.lite_read.specs.Uses.{leb, cond, ap, ◌∙◌, arith, refl, zip2_splat_left, length-chunk, prefix_len}
use lib.Lanes.{chunk}
use Rattle.lite_read.proofs.Lanes.{below_128, run_of}
use Rattle.lite_read.proofs.scan.ascii_run.Goals as goal

pub returns : goal.returns
returns c =
    let v = chunk c.args.at 32 c.args.bytes.now in
    let long = length-chunk c.args.at 32 c.args.bytes.now c.requires in
    let run = run_of (λ b. leb 128 b) c.args.bytes.now c.args.at 32 _ (omega arith) c.requires
    (zip2_splat_left (λ a b. cond (leb a b) 255 0) 128 32 v long) refl in
    c.first_set.ensures ∙ run ∙ ap (λ p. prefix_len p v) (λ i. λ b. below_128 b i)
