use Rattle.std.specs.Prelude.{◌≡◌, ◌<◌, [], ◌∷◌, Ok, Err, length}
use Rattle.lite_write.specs.Uses.{refl, rules, common_steps, Ready, Pending, WriteMark, offered_marks}
use Rattle.lite_write.proofs.Handing.{write_one}
use Rattle.lite_write.proofs.write_all.WriteAllFuturePollSteps.poll_step.Goals as goal

pub returns-then-is_empty-clause-stepped : goal.returns-then-is_empty-clause-stepped
returns-then-is_empty-clause-stepped g c =
    let x = c.args.self.now in
    let none : x.buf.now ≡ [] = search (rules, common_steps) in
    write_one g.W.WriteSpec.writes x x [] (Ready (Ok tt)) ((none, refl), refl) (g.W.WriteSpec.write_laws.rests x.writer.now)
    refl

pub returns-in-Ready-Ok-eq0-clause-stepped : goal.returns-in-Ready-Ok-eq0-clause-stepped
returns-in-Ready-Ok-eq0-clause-stepped g c =
    let is : c.poll_write.result ≡ Ready (Ok 0) = search rules in
    let some : 0 < length c.args.self.now.buf.now = search (rules, common_steps) in
    write_one g.W.WriteSpec.writes c.args.self.now _ (WriteMark.wrote [] ∷ []) (Ready (Err c.into.result))
    ((some, c.into.ensures), refl) (rw offered_marks at (rw is at c.poll_write.ensures.ran)) refl

pub returns-in-Ready-Err-clause-stepped : goal.returns-in-Ready-Err-clause-stepped
returns-in-Ready-Err-clause-stepped g c =
    let is : c.poll_write.result ≡ Ready (Err c.in-Ready-Err.e) = search rules in
    let some : 0 < length c.args.self.now.buf.now = search (rules, common_steps) in
    write_one g.W.WriteSpec.writes c.args.self.now _ _ (Ready (Err c.in-Ready-Err.e)) ((some, refl), refl)
    (rw is at c.poll_write.ensures.ran) refl

pub returns-in-Pending-clause-stepped : goal.returns-in-Pending-clause-stepped
returns-in-Pending-clause-stepped g c =
    let some : 0 < length c.args.self.now.buf.now = search (rules, common_steps) in
    write_one g.W.WriteSpec.writes c.args.self.now _ (WriteMark.pending ∷ []) Pending (refl, some, refl)
    (rw c.in-Pending.is at c.poll_write.ensures.ran) refl
