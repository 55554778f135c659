use Rattle.std.specs.Prelude.{◌≡◌, [], Some, None, Ok, Err}
use Rattle.lite_read.specs.Uses.{refl, rules, common_steps, Ready, Pending}
use Rattle.lite_read.proofs.Lacking.{before_found, before_none, lacks_before}
use Rattle.lite_read.specs.Scan.{is_newline}
use Rattle.lite_read.proofs.Items.{item_at_end, item_cut, item_fails, item_more, item_refused, item_waits}
use Rattle.lite_read.proofs.lines.LinesPollSteps.poll_step.Goals as goal

pub returns-in-Pending-clause-stepped : goal.returns-in-Pending-clause-stepped
returns-in-Pending-clause-stepped g c =
    let is : c.find_line.result ≡ Pending = search rules in
    item_waits g.R.ReadSpec.read_laws refl refl (rw is at c.find_line.ensures.ran)

pub returns-in-Ready-Err-clause-stepped : goal.returns-in-Ready-Err-clause-stepped
returns-in-Ready-Err-clause-stepped g c =
    let is : c.find_line.result ≡ Ready (Err c.in-Ready-Err.e) = search rules in
    item_fails g.R.ReadSpec.read_laws refl refl c.in-Ready-Err.e (rw is at c.find_line.ensures.ran)

pub returns-in-Ok-clause-stepped : goal.returns-in-Ok-clause-stepped
returns-in-Ok-clause-stepped g c =
    let line = c.in-Ready-Ok-Some-default in
    let is : c.find_line.result ≡ Ready (Ok (Some line.at, line.ascii)) = search rules in
    let e = c.in-Ok.ensures in
    item_cut g.R.ReadSpec.read_laws refl c.whole.ensures.empty _ _ line.at c.whole.result
    (rw is at c.find_line.ensures.ran) (rw is at c.find_line.ensures.found) (rw e.ok at c.whole.ensures.text) e.taken

pub returns-in-Err-clause-stepped : goal.returns-in-Err-clause-stepped
returns-in-Err-clause-stepped g c =
    let line = c.in-Ready-Ok-Some-default in
    let is : c.find_line.result ≡ Ready (Ok (Some line.at, line.ascii)) = search rules in
    let e = c.in-Err.ensures in
    item_refused g.R.ReadSpec.read_laws refl e.held c.in-Err.e _ _
    (rw is at c.find_line.ensures.ran) (search (rules, common_steps)) e.refused e.unread
    (lacks_before is_newline g.R.AsyncBufRead.buffer_of e.unread e.held
    (before_found 10 _ line.at (rw is at c.find_line.ensures.found)) e.full)

pub returns-then-is_empty-clause-stepped : goal.returns-then-is_empty-clause-stepped
returns-then-is_empty-clause-stepped g c =
    let is : c.find_line.result ≡ Ready (Ok (None, c.in-Ready-Ok-None-default.ascii)) = search rules in
    let none : g.R.AsyncBufRead.buffer_of c.find_line.new.reader ≡ [] = search (rules, common_steps) in
    item_at_end g.R.ReadSpec.read_laws refl c.last.ensures.empty c.last.result c.last.ensures.text
    (rw (is, none) at c.find_line.ensures.ran)

pub returns-in-Ok-take_in-clause-stepped : goal.returns-in-Ok-take_in-clause-stepped
returns-in-Ok-take_in-clause-stepped g c =
    let is : c.find_line.result ≡ Ready (Ok (None, c.in-Ready-Ok-None-default.ascii)) = search rules in
    let e = c.in-Ok-take_in.ensures in
    item_more (λ k. 10) g.R.ReadSpec.read_laws refl e.room _ _
    (rw is at c.find_line.ensures.ran)
    (rw is at c.find_line.ensures.found) (search (rules, common_steps)) e.ok e.taken

pub returns-in-Err-take_in-clause-stepped : goal.returns-in-Err-take_in-clause-stepped
returns-in-Err-take_in-clause-stepped g c =
    let is : c.find_line.result ≡ Ready (Ok (None, c.in-Ready-Ok-None-default.ascii)) = search rules in
    let e = c.in-Err-take_in.ensures in
    item_refused g.R.ReadSpec.read_laws refl e.held c.in-Err-take_in.e _ _
    (rw is at c.find_line.ensures.ran) (search (rules, common_steps)) e.refused e.unread
    (lacks_before is_newline g.R.AsyncBufRead.buffer_of e.unread e.held
    (before_none 10 _ (rw is at c.find_line.ensures.found)) e.full)
