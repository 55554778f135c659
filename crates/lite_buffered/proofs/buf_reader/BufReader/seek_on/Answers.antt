use Rattle.std.specs.Prelude.{length}
use Rattle.lite_buffered.specs.Uses.{rules, inr}
use Rattle.lite_buffered.proofs.Seeking.{to_z_back, to_z_known, to_z_offset}
use Rattle.lite_buffered.specs.BufReader.{bytes_ahead}
use Rattle.lite_buffered.proofs.buf_reader.BufReader.seek_on.Goals as goal

pub returns-clause-sought : goal.returns-clause-sought
returns-clause-sought g c =
    let ahead_is = c.offset_ahead-ahead.ensures in
    let count = to_z_known c.offset_ahead-ahead.result _ ahead_is.count ahead_is.small in
    let same = to_z_offset c.args.offset (search rules) in
    let far = rw (same, count) at c.in_default.ensures in
    let back = to_z_back (length (bytes_ahead c.args.self.now)) ahead_is.small in
    inr (far, rw (count, back, same) at c.seek_twice.ensures.sought)
