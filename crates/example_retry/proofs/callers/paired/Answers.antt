use Rattle.std.proofs.Common.{arith, rules}
use Rattle.std.proofs.lemmas.Grind.{common_steps}
use Rattle.example_retry.specs.Reply.{busy_reply}
use Rattle.example_retry.proofs.callers.paired.Goals as goal

pub returns : goal.returns
returns g c =
    let known = c.retry-reply.ensures.value (busy_reply c.args.busy)
    (λ number v q called. (grind (arith, common_steps), grind (arith, common_steps))) in
    let both = c.try_zip.ensures.at_once _ _ c.ready.ensures.at_once known.1 in
    search rules
