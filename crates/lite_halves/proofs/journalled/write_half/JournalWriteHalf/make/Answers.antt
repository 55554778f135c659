use Rattle.lite_halves.specs.Uses.{ap, sym, ◌∙◌}
use Rattle.lite_halves.specs.declared.entry.DoneCall.TheVariants.{Close as Closes, Flush as Flushes}
use Rattle.lite_halves.specs.Entry.{Request, asked_of}
use Rattle.lite_halves.proofs.Counted.{done_counted, none_counted, write_counted}
use Rattle.lite_halves.proofs.journalled.write_half.JournalWriteHalf.make.Goals as goal

pub returns-in_ok-step_write-in-Write-clause-made : goal.returns-in_ok-step_write-in-Write-clause-made
returns-in_ok-step_write-in-Write-clause-made g c =
    let counted = c.in_ok-step_write-in-Write.ensures.counted in
    write_counted _ _ _ _ _ _ (ap asked_of c.in-Write.is ∙ ap Request.offer (sym c.deref.ensures.value))
    c.in_ok-step_write-in-Write.ensures.bound counted.0 counted.1 c.write_answer.ensures

pub returns-in_err-step_write-in-Write-clause-made : goal.returns-in_err-step_write-in-Write-clause-made
returns-in_err-step_write-in-Write-clause-made g c =
    none_counted _ _ _ _ c.from_residual.ensures c.in_err-step_write-in-Write.ensures.counted

pub returns-in_ok-finish-in-Flush-clause-made : goal.returns-in_ok-finish-in-Flush-clause-made
returns-in_ok-finish-in-Flush-clause-made g c =
    let counted = c.in_ok-finish-in-Flush.ensures.counted in
    done_counted _ _ Flushes _ _ _ (ap asked_of c.in-Flush.is) counted.0 counted.1 c.done_answer.ensures

pub returns-in_ok-finish-in-Close-clause-made : goal.returns-in_ok-finish-in-Close-clause-made
returns-in_ok-finish-in-Close-clause-made g c =
    let counted = c.in_ok-finish-in-Close.ensures.counted in
    done_counted _ _ Closes _ _ _ (ap asked_of c.in-Close.is) counted.0 counted.1 c.done_answer-in-Close.ensures
