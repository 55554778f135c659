use Rattle.lite_read.specs.Uses.{◌∙◌}
use Rattle.lite_read.proofs.FirstLine.{found_next, line_ascii, newline_at}
use Rattle.lite_read.proofs.scan.scan_rest.Goals as goal

pub returns-then-bytes-i-eq-NEWLINE : goal.returns-then-bytes-i-eq-NEWLINE
returns-then-bytes-i-eq-NEWLINE c =
    let d = c.args.bytes.now in
    let inside = c.loop-i-test.true in
    let ends = found_next d c.loop-i.i c.loop-i.invariant.line inside c.if-bytes-i-eq-NEWLINE.true in
    record {
      newline = newline_at d c.loop-i.i inside ends;
      ascii = c.loop-i.invariant.known ∙ line_ascii d c.loop-i.i ends;
    }
