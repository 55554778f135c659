use Rattle.std.specs.Prelude.{◌≡◌, [], length}
use Rattle.lite_buffered.specs.Uses.{refl, arith, common_steps, read_marks}
use Rattle.lite_buffered.specs.BufReader.{bytes_ahead}
use Rattle.lite_buffered.proofs.Reading.{polls_asked, moved_none, through_past, through_taken}
use Rattle.lite_buffered.proofs.buf_reader.BufReaderAsyncRead.poll_read.Goals as goal

pub returns-then-is_empty-clause-ran : goal.returns-then-is_empty-clause-ran
returns-then-is_empty-clause-ran g c =
    let s = c.args.self.now in
    let none : length c.args.buf.now ≡ 0 = grind (arith, common_steps) in
    rw (moved_none c.args.buf.now [] none refl) (through_taken g.R.ReadSpec.reads s s g.R.ReadSpec.read_laws [] refl refl refl)

pub returns-then-is_passed-clause-ran : goal.returns-then-is_passed-clause-ran
returns-then-is_passed-clause-ran g c =
    let s = c.args.self.now in
    let r = c.poll_read.result in
    let buf = c.poll_read.new.buf in
    let none : bytes_ahead s ≡ [] = (c.is_passed.ensures.passed c.if-is_passed.true).0 in
    through_past g.R.ReadSpec.reads s _ (read_marks r buf) c.poll_read.ensures.ran refl none none

pub returns-clause-once : goal.returns-clause-once
returns-clause-once g c =
    polls_asked g.R.ReadSpec.reads _ _ c.args.self.now c.read_ahead.new.self g.R.ReadSpec.read_laws (omega arith) c.read_ahead.ensures.asks
