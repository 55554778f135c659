use Rattle.std.specs.Prelude.{◌≡◌, ◌==◌, ◌≤◌, ℕ, drop, length}
use Rattle.lite_read.specs.Uses.{◌∙◌, ap, arith, cond, leb, sym, le-leb, length-drop, zip2_splat, zip2_splat_left, length-chunk, is_ascii, prefix_len}
use Rattle.std.proofs.lemmas.Bool.{eqb-true, and_parts}
use lib.Lanes.{chunk}
use Rattle.lite_read.proofs.FirstLine.{all_below}
use Rattle.lite_read.proofs.Lanes.{below_128, none_of}
use Rattle.lite_read.proofs.scan.is_plain.Goals as goal

pub returns : goal.returns
returns c plain =
    let both = and_parts _ _ plain in
    let d = c.args.bytes.now in
    let at = c.args.at in
    let v = chunk at 64 d in
    let long = length-chunk at 64 d c.requires in
    let line = none_of (λ b. b == 10) d at 64 _ (omega arith) c.requires (zip2_splat {Y = ℕ} _ v 64 10 long)
    (eqb-true _ _ both.0) in
    let ascii = none_of (λ b. leb 128 b) d at 64 _ (omega arith) c.requires
    (zip2_splat_left (λ a b. cond (leb a b) 255 0) 128 64 v long) (eqb-true _ _ both.1) in
    let all : prefix_len is_ascii v ≡ 64 = ap (λ p. prefix_len p v) (λ i. λ b. sym (below_128 b) i) ∙ ascii in
    let room : 64 ≤ length (drop at d) = omega (arith, c.requires, length-drop at d) in
    record {
      within = room;
      line = line;
      known = sym (all_below is_ascii (drop at d) 64 64 (omega arith) room ∙ le-leb 64 _ (omega (arith, all)));
    }
