use Rattle.std.specs.Prelude.{◌<◌, length}
use Rattle.lite_buffered.specs.Uses.{refl, arith}
use Rattle.lite_buffered.specs.BufReader.{bytes_ahead}
use Rattle.lite_buffered.proofs.Reading.{asks_none, through_rest}
use Rattle.lite_buffered.proofs.Ranges.{length-slice_range, slice_range_none}
use Rattle.lite_buffered.proofs.buf_reader.BufReader.fill.Goals as goal

pub returns-then-self-clause-ran : goal.returns-then-self-clause-ran
returns-then-self-clause-ran g c =
    let s = c.args.self.now in
    let len = length-slice_range s.buf.items s.pos s.end s.in_range.0 s.in_range.1 in
    let some : 0 < length (bytes_ahead s) = omega (arith, len) in
    through_rest g.R.ReadSpec.reads s g.R.ReadSpec.read_laws some

pub returns-then-self-clause-asks : goal.returns-then-self-clause-asks
returns-then-self-clause-asks g c =
    let s = c.args.self.now in
    let len = length-slice_range s.buf.items s.pos s.end s.in_range.0 s.in_range.1 in
    let some : 0 < length (bytes_ahead s) = omega (arith, len) in
    asks_none g.R.ReadSpec.reads _ s s some refl

pub refill-requires : goal.refill-requires
refill-requires g c =
    let s = c.args.self.now in
    slice_range_none s.buf.items s.pos s.end (omega arith)
