use Rattle.std.specs.Prelude.{◌≡◌, ◌<◌, [], ◌∷◌, Ok, true, false, length}
use Rattle.lite_write.specs.Uses.{refl, rules, common_steps, Ready, bytes_ahead}
use Rattle.lite_write.specs.Laws.Copy.{moves_both}
use Rattle.lite_write.proofs.Copying.{is_copying, reader_ends, then_steps}
use Rattle.lite_write.proofs.copy.CopyFuturePollSteps.poll_step.Goals as goal

pub returns-in-Ready-Ok-true-clause-stepped : goal.returns-in-Ready-Ok-true-clause-stepped
returns-in-Ready-Ok-true-clause-stepped g c =
    let is : c.fill.result ≡ Ready (Ok true) = search rules in
    let none : bytes_ahead c.fill.new.reader ≡ [] = search (rules, common_steps) in
    let copying = is_copying c.args.self.now.phase c.in_default.not-Flushing in
    let rl = g.R.ReadSpec.read_laws in
    let wl = g.W.WriteSpec.write_laws in
    let ended = reader_ends g.R.ReadSpec.reads g.W.WriteSpec.writes rl wl c.args.self.now _ refl refl copying refl none
    (rw (is, none) at c.fill.ensures.ran) in
    moves_both rl wl c.args.self.now _ _ []
    (c.flush-in-Ready-Ok-true.result ∷ []) tt ended c.flush-in-Ready-Ok-true.ensures.ran

pub returns-in-Ready-Ok-false-clause-stepped : goal.returns-in-Ready-Ok-false-clause-stepped
returns-in-Ready-Ok-false-clause-stepped g c =
    let is : c.fill.result ≡ Ready (Ok false) = search rules in
    let some : 0 < length (bytes_ahead c.fill.new.reader) = search (rules, common_steps) in
    let copying = is_copying c.args.self.now.phase c.in_default.not-Flushing in
    then_steps g.R.ReadSpec.reads g.W.WriteSpec.writes g.R.ReadSpec.read_laws g.W.WriteSpec.write_laws c.args.self.now _ _ refl refl
    copying copying
    (rw is at c.fill.ensures.ran) some c.write_some.result c.write_some.ensures.stepped
