use Rattle.std.proofs.Common.{◌≡◌, ◌<◌, ◌^◌, rules, arith}
use Rattle.std.proofs.lemmas.Fmt.{parse-decimal}
use Rattle.pollrun.proofs.request.polls_of.Goals as goal

pub returns-in_default : goal.returns-in_default
returns-in_default c = λ m few e.
    let fits : m < 2 ^ 64 = omega arith in
    let read = parse-decimal 64 m _ _ fits fits e c.parse.ensures.value.0 in
    let text : c.format.result.now ≡ c.args.word.now = cc e in
    absurd (search rules)

pub returns-in_default-2 : goal.returns-in_default-2
returns-in_default-2 c = λ m few e.
    let fits : m < 2 ^ 64 = omega arith in
    let read = parse-decimal 64 m _ _ fits fits e c.parse.ensures.value.0 in
    let same : c.in-Ok.n ≡ m = cc in
    absurd (omega arith)

pub returns-in_default-3 : goal.returns-in_default-3
returns-in_default-3 c = λ m few e.
    let fits : m < 2 ^ 64 = omega arith in
    absurd (cc (parse-decimal 64 m _ _ fits fits e c.parse.ensures.value.0))
