use Rattle.std.specs.Prelude.{◌≡◌, Ok, Err}
use Rattle.lite_merge.specs.Uses.{refl, Pending, end, item}
use Rattle.lite_merge.proofs.cycle.Cycle.renew.Goals as goal

pub returns-in-Err-clause-ran : goal.returns-in-Err-clause-ran
returns-in-Err-clause-ran g c = (Err c.in-Err.refused, (c.in-Err.ensures.cases, refl, refl))

pub returns-clause-ran : goal.returns-clause-ran
returns-clause-ran g c =
    let is : c.poll_next-answer.result ≡ Pending = cc in
    (Ok c.in-Ok.copy, (c.in-Ok.ensures.cases, (Pending, rw is at c.poll_next-answer.ensures.ran, refl)))

pub returns-in-Some-clause-ran : goal.returns-in-Some-clause-ran
returns-in-Some-clause-ran g c =
    let is : c.poll_next-answer.result ≡ item c.in-Some.item = cc in
    (Ok c.in-Ok.copy, (c.in-Ok.ensures.cases, (item c.in-Some.item, rw is at c.poll_next-answer.ensures.ran, refl)))

pub returns-in-None-clause-ran : goal.returns-in-None-clause-ran
returns-in-None-clause-ran g c =
    let is : c.poll_next-answer.result ≡ end = cc in
    (Ok c.in-Ok.copy, (c.in-Ok.ensures.cases, (end, rw is at c.poll_next-answer.ensures.ran, refl)))
