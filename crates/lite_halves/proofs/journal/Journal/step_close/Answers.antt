use Rattle.lite_halves.specs.Uses.{arith, refl, WriteMark}
use Rattle.lite_halves.specs.Entry.{close_note}
use Rattle.lite_halves.specs.Laws.Entry.{done_fits, done_note_part}
use Rattle.lite_halves.proofs.Noted.{adds_push, sound_push}
use Rattle.lite_halves.proofs.journal.Journal.step_close.Goals as goal

pub invariant_of-self-2 : goal.invariant_of-self-2
invariant_of-self-2 g c =
    sound_push g.T.ReadSpec.reads g.T.WriteSpec.writes g.T.Clone.is_clone _ (close_note _) c.self.invariant
    c.reserve.ensures.items c.push_reserved.ensures.items refl c.done_answer-answer.ensures (done_fits _)
    (done_note_part WriteMark.closed _) c.poll_close-polled.ensures.ran (omega arith)

pub returns-clause-added : goal.returns-clause-added
returns-clause-added g c =
    rw (← c.self.view_is)
    (adds_push g.T.ReadSpec.reads g.T.WriteSpec.writes _ (close_note _) c.reserve.ensures.items c.push_reserved.ensures.items
    refl c.done_answer-answer.ensures (done_fits _) (done_note_part WriteMark.closed _) c.poll_close-polled.ensures.ran
    (omega arith))
