use Rattle.std.proofs.Common.{◌≡◌, Ok}
use Rattle.futures.specs.declared.task.Poll.TheVariants.{Ready}
use Rattle.theorems_at_types.proofs.Given.{given_popped}
use Rattle.theorems_at_types.proofs.scripts.given.Goals as goal

pub returns-in-Some-Ready-Ok : goal.returns-in-Some-Ready-Ok
returns-in-Some-Ready-Ok g c =
    let polled = c.in_ok-answers.ensures in
    let popped = c.in-Some-Ready-Ok in
    let is : popped.field-0 ≡ Ready (Ok popped.value) = cc in
    let gives = given_popped c.in_ok-answers.answers.items c.pop.new.self.items popped.field-0
    (Ok popped.value) popped.ensures.items is polled.1.value_last in
    (_, _, polled.0, gives)
