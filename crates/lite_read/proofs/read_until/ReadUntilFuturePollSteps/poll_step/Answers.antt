use Rattle.std.specs.Prelude.{◌≡◌, ◌-◌, [], Some, None, Ok, Err, length, take}
use Rattle.lite_read.specs.Uses.{◌∙◌, le_refl, refl, rules, ap, common_steps, Ready}
use Rattle.lite_read.proofs.Lacking.{lacks_through, through_found, through_none}
use Rattle.lite_read.proofs.Cutting.{take_whole}
use Rattle.lite_read.proofs.Until.{until_ends, until_fails, until_found, until_more, until_refused, until_waits}
use Rattle.lite_read.proofs.read_until.ReadUntilFuturePollSteps.poll_step.Goals as goal

pub returns-in-Ready-Err-clause-stepped : goal.returns-in-Ready-Err-clause-stepped
returns-in-Ready-Err-clause-stepped g c =
    let is : c.find_byte.result ≡ Ready (Err c.in-Ready-Err.e) = search rules in
    until_fails g.R.ReadSpec.read_laws c.args.self.now _ refl refl refl refl c.requires.1 (le_refl _) refl
    c.in-Ready-Err.e (rw is at c.find_byte.ensures.ran)

pub returns-in-Ok-clause-stepped : goal.returns-in-Ok-clause-stepped
returns-in-Ok-clause-stepped g c =
    let is : c.find_byte.result ≡ Ready (Ok (Some c.in-Ready-Ok-Some.at)) = search rules in
    let e = c.in-Ok.ensures in
    let long : c.len.result ≡ length c.append.new.buf.items = search (rules, common_steps) in
    until_found g.R.ReadSpec.read_laws c.args.self.now _ refl refl refl refl c.requires.1 e.room _ _
    (rw is at c.find_byte.ensures.ran) c.in-Ready-Ok-Some.at _
    (rw is at c.find_byte.ensures.found) e.ok e.taken (ap (λ n. n - c.args.self.now.start) long)

pub returns-in-Err-clause-stepped : goal.returns-in-Err-clause-stepped
returns-in-Err-clause-stepped g c =
    let is : c.find_byte.result ≡ Ready (Ok (Some c.in-Ready-Ok-Some.at)) = search rules in
    let e = c.in-Err.ensures in
    until_refused g.R.ReadSpec.read_laws c.args.self.now _ refl refl refl refl c.requires.1 e.room e.held
    c.in-Err.e _ _ (rw is at c.find_byte.ensures.ran) (search (rules, common_steps)) e.refused e.unread
    (lacks_through c.args.self.now.byte g.R.AsyncBufRead.buffer_of e.unread e.held
    (through_found c.args.self.now.byte _ c.in-Ready-Ok-Some.at (rw is at c.find_byte.ensures.found)) e.full)

pub returns-then-amount-eq0-clause-stepped : goal.returns-then-amount-eq0-clause-stepped
returns-then-amount-eq0-clause-stepped g c =
    let is : c.find_byte.result ≡ Ready (Ok None) = search rules in
    let long : c.len-then-amount-eq0.result ≡ length c.args.self.now.buf.now.items = search (rules, common_steps) in
    let none : g.R.AsyncBufRead.buffer_of c.find_byte.new.reader ≡ [] = search (rules, common_steps) in
    until_ends g.R.ReadSpec.read_laws c.args.self.now _ refl refl refl refl c.requires.1 (le_refl _) refl _
    (ap (λ n. n - c.args.self.now.start) long)
    (rw (is, none) at c.find_byte.ensures.ran)

pub returns-in-Ok-append-clause-stepped : goal.returns-in-Ok-append-clause-stepped
returns-in-Ok-append-clause-stepped g c =
    let is : c.find_byte.result ≡ Ready (Ok None) = search rules in
    let e = c.in-Ok-append.ensures in
    let shown = g.R.AsyncBufRead.buffer_of c.find_byte.new.reader in
    let all = ap (λ l. take (length l) shown) c.buffer-amount.ensures ∙ take_whole shown in
    until_more g.R.ReadSpec.read_laws c.args.self.now _ refl refl refl refl c.requires.1 e.room _ _
    (rw is at c.find_byte.ensures.ran)
    (rw is at c.find_byte.ensures.found) (search (rules, common_steps)) (rw all at e.ok) (rw all at e.taken)

pub returns-in-Err-append-clause-stepped : goal.returns-in-Err-append-clause-stepped
returns-in-Err-append-clause-stepped g c =
    let is : c.find_byte.result ≡ Ready (Ok None) = search rules in
    let e = c.in-Err-append.ensures in
    until_refused g.R.ReadSpec.read_laws c.args.self.now _ refl refl refl refl c.requires.1 e.room e.held
    c.in-Err-append.e _ _ (rw is at c.find_byte.ensures.ran) (search (rules, common_steps)) e.refused e.unread
    (lacks_through c.args.self.now.byte g.R.AsyncBufRead.buffer_of e.unread e.held
    (through_none c.args.self.now.byte _ (rw is at c.find_byte.ensures.found)) (rw c.buffer-amount.ensures at e.full))

pub returns-in-Pending-clause-stepped : goal.returns-in-Pending-clause-stepped
returns-in-Pending-clause-stepped g c =
    until_waits g.R.ReadSpec.read_laws c.args.self.now _ refl refl refl refl c.requires.1 (le_refl _) refl
    (rw c.in-Pending.is at c.find_byte.ensures.ran)
