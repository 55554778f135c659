use Rattle.std.specs.Prelude.{◌≡◌, [], Some, None, Ok, Err, take}
use Rattle.lite_read.specs.Uses.{◌∙◌, le_refl, refl, rules, ap, common_steps, Ready}
use Rattle.lite_read.proofs.Lacking.{lacks_through, through_found, through_none}
use Rattle.lite_read.proofs.Cutting.{take_whole}
use Rattle.lite_read.proofs.ReadLine.{filled_last, line_cut, line_direct, line_more, line_refused}
use Rattle.lite_read.proofs.TextSteps.{text_pending, text_value, text_waits}
use Rattle.lite_read.proofs.Until.{ended, failed}
use Rattle.lite_read.specs.ReadLine.{LineLacksMemory, line_over, read_line_fold}
use Rattle.lite_read.proofs.read_line.ReadLineFuturePollSteps.poll_step.Goals as goal

pub returns-in-Ready-Err-clause-stepped : goal.returns-in-Ready-Err-clause-stepped
returns-in-Ready-Err-clause-stepped g c =
    let x = c.args.self.now in
    let is : c.find_line.result ≡ Ready (Err c.in-Ready-Err.e) = search rules in
    text_value line_over read_line_fold (LineLacksMemory g.R.AsyncBufRead.buffer_of) _ _ _
    (filled_last _ g.R.ReadSpec.read_laws x c.find_line.new.reader c.finish-in-Ready-Err.ensures
    (failed 10 _ _ c.in-Ready-Err.e refl) (rw is at c.find_line.ensures.ran))

pub returns-then-amount-eq0-clause-stepped : goal.returns-then-amount-eq0-clause-stepped
returns-then-amount-eq0-clause-stepped g c =
    let x = c.args.self.now in
    let is : c.find_line.result ≡ Ready (Ok (None, c.in-Ready-Ok-None-default.ascii)) = search rules in
    let none : g.R.AsyncBufRead.buffer_of c.find_line.new.reader ≡ [] = search (rules, common_steps) in
    text_value line_over read_line_fold (LineLacksMemory g.R.AsyncBufRead.buffer_of) _ _ _
    (filled_last _ g.R.ReadSpec.read_laws x c.find_line.new.reader c.whole-then-amount-eq0.ensures
    (ended 10 _ _ _ refl refl) (rw (is, none) at c.find_line.ensures.ran))

pub returns-then-is_direct-clause-stepped : goal.returns-then-is_direct-clause-stepped
returns-then-is_direct-clause-stepped g c =
    let line = c.in-Ready-Ok-Some-default in
    let is : c.find_line.result ≡ Ready (Ok (Some line.at, line.ascii)) = search rules in
    let e = c.append_line.ensures in
    line_direct g.R.AsyncBufRead.buffer_of g.R.ReadSpec.read_laws c.args.self.now c.append_line.new.self c.find_line.new.reader
    e.stays (rw is at c.find_line.ensures.ran) e.none.0 e.none.1 e.held line.at (rw is at c.find_line.ensures.found)
    c.append_line.result (c.is_direct.ensures.utf8 c.if-is_direct.true) e.value e.ok e.taken e.refused e.full e.unread
    e.unchanged

pub returns-in-Ok-clause-stepped : goal.returns-in-Ok-clause-stepped
returns-in-Ok-clause-stepped g c =
    let line = c.in-Ready-Ok-Some-default in
    let is : c.find_line.result ≡ Ready (Ok (Some line.at, line.ascii)) = search rules in
    let e = c.in-Ok.ensures in
    text_value line_over read_line_fold (LineLacksMemory g.R.AsyncBufRead.buffer_of) _ _ _
    (line_cut _ g.R.ReadSpec.read_laws c.args.self.now c.find_line.new.reader c.take_in.new.self _ e.stays e.text
    (rw is at c.find_line.ensures.ran) c.whole.ensures line.at refl
    (rw is at c.find_line.ensures.found) e.ok e.taken)

pub returns-in-Err-clause-stepped : goal.returns-in-Err-clause-stepped
returns-in-Err-clause-stepped g c =
    let line = c.in-Ready-Ok-Some-default in
    let is : c.find_line.result ≡ Ready (Ok (Some line.at, line.ascii)) = search rules in
    let e = c.in-Err.ensures in
    text_value line_over read_line_fold (LineLacksMemory g.R.AsyncBufRead.buffer_of) _ _ _
    (line_refused _ g.R.ReadSpec.read_laws c.args.self.now c.find_line.new.reader c.take_in.new.self _ e.stays e.text
    (rw is at c.find_line.ensures.ran) c.finish.ensures c.in-Err.e refl
    e.refused (search (rules, common_steps))
    e.unread e.unchanged
    (lacks_through 10 g.R.AsyncBufRead.buffer_of (ap (λ r. r.now) c.finish.ensures.reader ∙ e.unread) refl
    (through_found 10 _ line.at (rw is at c.find_line.ensures.found)) e.full))

pub returns-in-Ok-take_in-clause-stepped : goal.returns-in-Ok-take_in-clause-stepped
returns-in-Ok-take_in-clause-stepped g c =
    let is : c.find_line.result ≡ Ready (Ok (None, c.in-Ready-Ok-None-default.ascii)) = search rules in
    let e = c.in-Ok-take_in.ensures in
    let shown = g.R.AsyncBufRead.buffer_of c.find_line.new.reader in
    let all = ap (λ n. take n shown) c.lent_by-amount.ensures ∙ take_whole shown in
    line_more _ g.R.ReadSpec.read_laws c.args.self.now c.find_line.new.reader c.take_in-in-Ready-Ok-None-default.new.self
    _ e.stays e.text (rw is at c.find_line.ensures.ran)
    (rw is at c.find_line.ensures.found) (search (rules, common_steps)) (rw all at e.ok) (rw all at e.taken) e.held
    e.room

pub returns-in-Err-take_in-clause-stepped : goal.returns-in-Err-take_in-clause-stepped
returns-in-Err-take_in-clause-stepped g c =
    let is : c.find_line.result ≡ Ready (Ok (None, c.in-Ready-Ok-None-default.ascii)) = search rules in
    let e = c.in-Err-take_in.ensures in
    text_value line_over read_line_fold (LineLacksMemory g.R.AsyncBufRead.buffer_of) _ _ _
    (line_refused _ g.R.ReadSpec.read_laws c.args.self.now c.find_line.new.reader
    c.take_in-in-Ready-Ok-None-default.new.self
    _ e.stays e.text (rw is at c.find_line.ensures.ran) c.finish-in-Err-take_in.ensures
    c.in-Err-take_in.e refl e.refused (search (rules, common_steps)) e.unread e.unchanged
    (lacks_through 10 g.R.AsyncBufRead.buffer_of (ap (λ r. r.now) c.finish-in-Err-take_in.ensures.reader ∙ e.unread) refl
    (through_none 10 _ (rw is at c.find_line.ensures.found)) (rw c.lent_by-amount.ensures at e.full)))

pub returns-in-Pending-clause-stepped : goal.returns-in-Pending-clause-stepped
returns-in-Pending-clause-stepped g c =
    text_pending line_over read_line_fold (LineLacksMemory g.R.AsyncBufRead.buffer_of) _ _ (le_refl _) (
      text_waits line_over (read_line_fold _) g.R.ReadSpec.reads c.args.self.now _
          (record { reader = refl; text = refl }) refl
          refl tt (rw c.in-Pending.is at c.find_line.ensures.ran),
      record { fits = c.requires.1.fits; known = c.requires.1.known },
    )
