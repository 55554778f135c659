use Rattle.std.specs.Prelude.{◌≡◌, [], Some, None, Ok, Err}
use Rattle.lite_read.specs.Uses.{refl, rules, common_steps, Ready, Pending, is_byte}
use Rattle.lite_read.proofs.Lacking.{before_found, before_none, lacks_before}
use Rattle.lite_read.proofs.Items.{item_at_end, item_fails, item_found, item_more, item_refused, item_waits}
use Rattle.lite_read.proofs.split.SplitPollSteps.poll_step.Goals as goal

pub returns-in-Pending-clause-stepped : goal.returns-in-Pending-clause-stepped
returns-in-Pending-clause-stepped g c =
    let is : c.find_byte.result ≡ Pending = search rules in
    item_waits g.R.ReadSpec.read_laws refl refl
    (rw is at c.find_byte.ensures.ran)

pub returns-in-Ready-Err-clause-stepped : goal.returns-in-Ready-Err-clause-stepped
returns-in-Ready-Err-clause-stepped g c =
    let is : c.find_byte.result ≡ Ready (Err c.in-Ready-Err.e) = search rules in
    item_fails g.R.ReadSpec.read_laws refl refl c.in-Ready-Err.e
    (rw is at c.find_byte.ensures.ran)

pub returns-in-Ready-Ok-Some-clause-stepped : goal.returns-in-Ready-Ok-Some-clause-stepped
returns-in-Ready-Ok-Some-clause-stepped g c =
    let is : c.find_byte.result ≡ Ready (Ok (Some c.in-Ready-Ok-Some.at)) = search rules in
    let e = c.cut.ensures in
    item_found g.R.ReadSpec.read_laws e.byte _ _ c.in-Ready-Ok-Some.at c.cut.result
    (rw is at c.find_byte.ensures.ran)
    (rw is at c.find_byte.ensures.found) e.ok e.err e.full
    (λ unread held full. (lacks_before (is_byte c.args.self.now.byte) g.R.AsyncBufRead.buffer_of unread held
    (before_found c.args.self.now.byte _ c.in-Ready-Ok-Some.at (rw is at c.find_byte.ensures.found)) full))

pub returns-then-is_empty-clause-stepped : goal.returns-then-is_empty-clause-stepped
returns-then-is_empty-clause-stepped g c =
    let is : c.find_byte.result ≡ Ready (Ok None) = search rules in
    let none : g.R.AsyncBufRead.buffer_of c.find_byte.new.reader ≡ [] = search (rules, common_steps) in
    let fills = rw (is, none) at c.find_byte.ensures.ran in
    let e = c.last.ensures in
    item_at_end g.R.ReadSpec.read_laws e.byte e.empty c.last.result e.value
    (rw e.reader fills)

pub returns-in-Ok-clause-stepped : goal.returns-in-Ok-clause-stepped
returns-in-Ok-clause-stepped g c =
    let is : c.find_byte.result ≡ Ready (Ok None) = search rules in
    let e = c.in-Ok.ensures in
    item_more (λ k. k) g.R.ReadSpec.read_laws e.byte e.room _ _
    (rw is at c.find_byte.ensures.ran) (rw is at c.find_byte.ensures.found) (search (rules, common_steps)) e.ok e.taken

pub returns-in-Err-clause-stepped : goal.returns-in-Err-clause-stepped
returns-in-Err-clause-stepped g c =
    let is : c.find_byte.result ≡ Ready (Ok None) = search rules in
    let e = c.in-Err.ensures in
    item_refused g.R.ReadSpec.read_laws e.byte e.held c.in-Err.e _ _
    (rw is at c.find_byte.ensures.ran) (search (rules, common_steps)) e.refused e.unread
    (lacks_before (is_byte c.args.self.now.byte) g.R.AsyncBufRead.buffer_of e.unread e.held
    (before_none c.args.self.now.byte _ (rw is at c.find_byte.ensures.found)) e.full)
