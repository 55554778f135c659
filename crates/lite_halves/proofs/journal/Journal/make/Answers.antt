use Rattle.lite_halves.specs.Uses.{ap, sym, ◌∙◌}
use Rattle.lite_halves.specs.Entry.{Request, asked_of, close_note, flush_note, write_note}
use Rattle.lite_halves.proofs.Noted.{answer_adds, none_adds}
use Rattle.lite_halves.proofs.journal.Journal.make.Goals as goal

pub returns-in_err-step_write-in-Write-clause-made : goal.returns-in_err-step_write-in-Write-clause-made
returns-in_err-step_write-in-Write-clause-made g c =
    let refused = c.in_err-step_write-in-Write.ensures in
    none_adds g.T.ReadSpec.reads g.T.WriteSpec.writes _ _ _ _ _ c.from_residual.ensures refused.none
    (ap asked_of c.in-Write.is ∙ ap Request.offer (sym c.deref.ensures.value)) refused.refused

pub returns-in_ok-step_write-in-Write-clause-made : goal.returns-in_ok-step_write-in-Write-clause-made
returns-in_ok-step_write-in-Write-clause-made g c =
    answer_adds g.T.ReadSpec.reads g.T.WriteSpec.writes _ _ _ _ (write_note _ _) c.in_ok-step_write-in-Write.ensures.added
    (ap asked_of c.in-Write.is ∙ ap Request.offer (sym c.deref.ensures.value)) c.write_answer.ensures

pub returns-in_err-step_flush-in-Flush-clause-made : goal.returns-in_err-step_flush-in-Flush-clause-made
returns-in_err-step_flush-in-Flush-clause-made g c =
    let refused = c.in_err-step_flush-in-Flush.ensures in
    none_adds g.T.ReadSpec.reads g.T.WriteSpec.writes _ _ _ _ _ c.from_residual-in_err-step_flush-in-Flush.ensures refused.none
    (ap asked_of c.in-Flush.is) refused.refused

pub returns-in_ok-step_flush-in-Flush-clause-made : goal.returns-in_ok-step_flush-in-Flush-clause-made
returns-in_ok-step_flush-in-Flush-clause-made g c =
    answer_adds g.T.ReadSpec.reads g.T.WriteSpec.writes _ _ _ _ (flush_note _) c.in_ok-step_flush-in-Flush.ensures.added
    (ap asked_of c.in-Flush.is) c.done_answer.ensures

pub returns-in_err-step_close-in-Close-clause-made : goal.returns-in_err-step_close-in-Close-clause-made
returns-in_err-step_close-in-Close-clause-made g c =
    let refused = c.in_err-step_close-in-Close.ensures in
    none_adds g.T.ReadSpec.reads g.T.WriteSpec.writes _ _ _ _ _ c.from_residual-in_err-step_close-in-Close.ensures refused.none
    (ap asked_of c.in-Close.is) refused.refused

pub returns-in_ok-step_close-in-Close-clause-made : goal.returns-in_ok-step_close-in-Close-clause-made
returns-in_ok-step_close-in-Close-clause-made g c =
    answer_adds g.T.ReadSpec.reads g.T.WriteSpec.writes _ _ _ _ (close_note _) c.in_ok-step_close-in-Close.ensures.added
    (ap asked_of c.in-Close.is) c.done_answer-in-Close.ensures
