use Rattle.std.proofs.Common.{arith, rules}
use Rattle.std.proofs.lemmas.Grind.{common_steps}
use Rattle.example_retry.specs.Reply.{busy_reply}
use Rattle.example_retry.proofs.callers.retried.Goals as goal

pub returns : goal.returns
returns g c =
    let known = c.retry-reply.ensures.value (busy_reply c.args.busy)
    (λ number v q called. (grind (arith, common_steps), grind (arith, common_steps))) in
    search rules
