use Rattle.std.specs.Prelude.{◌≤◌, ◌-◌, length, take}
use Rattle.lite_buffered.specs.Uses.{◌∙◌, ap, bytes}
use Rattle.lite_buffered.proofs.Pacing.{consumed_bytes, consumed_rest}
use Rattle.lite_buffered.proofs.budgeted.BudgetedAsyncBufRead.consume.Goals as goal

pub returns-clause-ran : goal.returns-clause-ran
returns-clause-ran g c =
    let n = c.args.amount in
    let shown = g.R.AsyncBufRead.buffer_of c.args.self.now.reader in
    let fits : n ≤ length (take c.in-Some.left shown) = rw c.in-Some.is at c.requires in
    let s = consumed_bytes c.in-Some.left n shown fits c.args.self.now.budget in
    rw (c.in-Some.is, s.0) (record { came = bytes (take n shown); ran = c.consume.ensures.ran; paced = s.1 })

pub returns-clause-rest : goal.returns-clause-rest
returns-clause-rest g c =
    let n = c.args.amount in
    let left = c.in-Some.left in
    let shown = g.R.AsyncBufRead.buffer_of c.args.self.now.reader in
    let fits : n ≤ length (take left shown) = rw c.in-Some.is at c.requires in
    rw c.in-Some.is (ap (take (left - n)) c.consume.ensures.rest ∙ consumed_rest left n shown fits)
