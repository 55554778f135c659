use Rattle.std.specs.Prelude.{◌≡◌, ◌<◌, ◌≤◌, ◌+◌, ◌%◌, ◌^◌, Ok, length}
use Rattle.lite_write.specs.Uses.{ap, sym, arith, rules, Ready, bytes_ahead, offered_marks}
use Rattle.std.proofs.Common.{length-take-le, take}
use Rattle.lite_write.proofs.Copying.{writes_more}
use Rattle.lite_write.proofs.copy.CopyFuture.write_some.Goals as goal

pub returns-in-Ready-Ok-clause-stepped : goal.returns-in-Ready-Ok-clause-stepped
returns-in-Ready-Ok-clause-stepped g c =
    let n = c.in-Ready-Ok.n in
    let shown = bytes_ahead c.args.self.now.reader in
    let is : c.poll_write.result ≡ Ready (Ok n) = search rules in
    let most : n ≤ length shown = rw (← c.buffer.ensures) (rw is at c.poll_write.ensures.bound) in
    let all : length (take n shown) ≡ n = length-take-le n shown most in
    let some : 0 < length (take n shown) = omega (arith, all, c.in-Ready-Ok.n-test.1) in
    let offered = rw (is, c.buffer.ensures) at c.poll_write.ensures.ran in
    let went = rw (offered_marks n shown c.requires.some) at offered in
    let amount = ap (λ k. (c.args.self.now.amount + k) % 2 ^ 64) (sym all) in
    writes_more g.R.ReadSpec.reads g.W.WriteSpec.writes g.R.ReadSpec.read_laws g.W.WriteSpec.write_laws c.args.self.now _
    (take n shown) some c.requires.phase c.requires.phase amount
    c.consume.ensures.ran went
