use Rattle.lite_buffered.specs.Uses.{arith, common_steps, boxed_slice_items}
use Rattle.lite_buffered.proofs.Draining.{range_more}
use Rattle.lite_buffered.proofs.buf_writer.BufWriter.hold.Goals as goal

pub returns-clause-held : goal.returns-clause-held
returns-clause-held g c =
    let s = c.args.self.now in
    range_more (boxed_slice_items s.buf) _ c.args.bytes.now s.written s.len s.in_range.0 s.in_range.1
    (grind (arith, common_steps, s.in_range.0, s.in_range.1))
