use Rattle.std.specs.Prelude.{◌≡◌, []}
use Rattle.lite_buffered.specs.Uses.{refl, arith, common_steps, reads_front, read_marks, room_in}
use Rattle.lite_buffered.specs.BufReader.{ThroughBuffer, bytes_ahead}
use Rattle.lite_buffered.proofs.Reading.{polls_asked, moved_none, through_past, through_taken}
use Rattle.lite_buffered.proofs.buf_reader.BufReaderAsyncRead.poll_read_vectored.Goals as goal

pub returns-then-total-eq0-clause-ran : goal.returns-then-total-eq0-clause-ran
returns-then-total-eq0-clause-ran g c =
    let reads = g.R.ReadSpec.reads in
    let s = c.args.self.now in
    let none : room_in c.args.bufs.now ≡ 0 = grind (arith, common_steps) in
    reads_front (ThroughBuffer reads) s s 0 [] c.args.bufs.now refl (omega arith)
    (λ buf is. rw (moved_none buf [] (omega arith) refl) (through_taken reads s s g.R.ReadSpec.read_laws [] refl refl refl))

pub returns-then-is_passed-clause-ran : goal.returns-then-is_passed-clause-ran
returns-then-is_passed-clause-ran g c =
    let s = c.args.self.now in
    let r = c.poll_read_vectored.result in
    let h = c.poll_read_vectored.ensures.ran in
    let none : bytes_ahead s ≡ [] = (c.is_passed.ensures.passed c.if-is_passed.true).0 in
    (h.0, h.1, through_past g.R.ReadSpec.reads s _ (read_marks r h.0) h.2 refl none none)

pub returns-clause-once : goal.returns-clause-once
returns-clause-once g c =
    polls_asked g.R.ReadSpec.reads _ _ c.args.self.now c.read_ahead_vectored.new.self g.R.ReadSpec.read_laws (omega arith)
    c.read_ahead_vectored.ensures.asks
