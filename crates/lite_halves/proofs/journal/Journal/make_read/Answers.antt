use Rattle.std.specs.Prelude.{◌≡◌, length}
use Rattle.std.proofs.lemmas.Grind.{common_steps}
use Rattle.lite_halves.specs.Uses.{ap, arith, inr, refl, ◌∙◌}
use Rattle.lite_halves.specs.Entry.{Request, read_note, told_of_read}
use Rattle.lite_halves.proofs.Noted.{answer_adds, none_adds}
use Rattle.lite_halves.proofs.journal.Journal.make_read.Goals as goal

pub returns-in_err-buf-clause-made : goal.returns-in_err-buf-clause-made
returns-in_err-buf-clause-made g c =
    none_adds g.T.ReadSpec.reads g.T.WriteSpec.writes _ _ _ (Request.room c.args.room) _ c.from_residual.ensures refl refl
    (inr c.in_err-buf.ensures.none)

pub returns-clause-made : goal.returns-clause-made
returns-clause-made g c =
    let r = c.in_ok-polled.polled in
    let buf = c.step_read.new.buf in
    let fits : c.args.room ≡ length buf = grind (arith, common_steps) in
    let filled = c.buffer_answer.ensures ∙ ap (told_of_read r) (grind (arith, common_steps)) in
    answer_adds g.T.ReadSpec.reads g.T.WriteSpec.writes _ _ _ _ (read_note r buf) c.in_ok-polled.ensures.added
    (ap Request.room fits) filled
