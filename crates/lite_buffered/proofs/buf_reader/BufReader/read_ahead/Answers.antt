use Rattle.std.specs.Prelude.{◌≡◌, ◌<◌, Ok, length}
use Rattle.lite_buffered.specs.Uses.{arith, rules, common_steps, Ready, filled_marks}
use Rattle.lite_buffered.specs.BufReader.{ThroughBuffer, bytes_ahead}
use Rattle.lite_buffered.proofs.Reading.{fill_then_take}
use Rattle.lite_buffered.proofs.buf_reader.BufReader.read_ahead.Goals as goal

pub returns-in-Ok-clause-ran : goal.returns-in-Ok-clause-ran
returns-in-Ok-clause-ran g c =
    let s = c.fill.new.self in
    let e = c.hand_out.ensures in
    let ready : c.fill.result ≡ Ready (Ok c.in-Ok.field-0) = search rules in
    let fills : ThroughBuffer g.R.ReadSpec.reads c.args.self.now (filled_marks (bytes_ahead s)) s = rw ready at c.fill.ensures.ran in
    let room = c.hand_out.new.buf in
    let some : 0 < length room = grind (arith, common_steps) in
    rw e.bytes
    (fill_then_take g.R.ReadSpec.read_laws _ s c.hand_out.new.self _ room fills e.inner e.capacity e.rest e.count some)
