use Rattle.std.specs.Prelude.{◌≡◌, ◌≤◌, ◌<◌, Ok, length, take, min}
use Rattle.lite_buffered.specs.Uses.{rules, arith, length-take-le, Ready, reads_front, filled_marks, room_in}
use Rattle.lite_buffered.specs.BufReader.{ThroughBuffer, bytes_ahead}
use Rattle.lite_buffered.proofs.Reading.{fill_then_take}
use Rattle.lite_buffered.proofs.buf_reader.BufReader.read_ahead_vectored.Goals as goal

pub returns-in-Ok-clause-ran : goal.returns-in-Ok-clause-ran
returns-in-Ok-clause-ran g c =
    let reads = g.R.ReadSpec.reads in
    let s = c.fill.new.self in
    let y = c.hand_out_vectored.new.self in
    let e = c.hand_out_vectored.ensures in
    let n = c.hand_out_vectored.result in
    let bufs = c.args.bufs.now in
    let ready : c.fill.result ≡ Ready (Ok c.in-Ok.field-0) = search rules in
    let fills : ThroughBuffer reads c.args.self.now (filled_marks (bytes_ahead s)) s = rw ready at c.fill.ensures.ran in
    let is : n ≡ min (length (bytes_ahead s)) (room_in bufs) = e.count in
    let some : 0 < room_in bufs = c.requires in
    let fits : n ≤ length (bytes_ahead s) = omega (arith, is) in
    reads_front (ThroughBuffer reads) c.args.self.now y n (take n (bytes_ahead s)) bufs (length-take-le n (bytes_ahead s) fits) (omega (arith, is))
    (λ buf room. fill_then_take g.R.ReadSpec.read_laws c.args.self.now s y n buf fills e.inner e.capacity e.rest (omega (arith, is, room)) (omega (arith, room, some)))
