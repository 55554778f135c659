use Rattle.std.specs.Prelude.{◌-◌, vec_capacity, vec_len}
use Rattle.lite_halves.specs.Uses.{ap, arith, refl}
use Rattle.lite_halves.specs.Entry.{Request, read_note}
use Rattle.lite_halves.specs.Laws.Entry.{read_note_fits, read_note_part}
use Rattle.lite_halves.proofs.Noted.{adds_push, sound_push}
use Rattle.lite_halves.proofs.journal.Journal.read_noted.Goals as goal

pub invariant_of-self : goal.invariant_of-self
invariant_of-self g c =
    let r = c.poll_read-polled.result in
    let buf = c.poll_read-polled.new.buf in
    let entries = c.push_reserved.new.self in
    sound_push g.T.ReadSpec.reads g.T.WriteSpec.writes {gs = entries.items}
    {rest = vec_capacity entries - vec_len entries} g.T.Clone.is_clone _ (read_note r buf) c.self.invariant
    refl c.push_reserved.ensures.items (ap Request.room (omega (arith, c.poll_read-polled.auto.buf)))
    c.read_answer-answer.ensures (read_note_fits r buf c.poll_read-polled.ensures.bound) (read_note_part r buf)
    c.poll_read-polled.ensures.ran (omega arith)

pub returns-clause-added : goal.returns-clause-added
returns-clause-added g c =
    let r = c.poll_read-polled.result in
    let buf = c.poll_read-polled.new.buf in
    let entries = c.push_reserved.new.self in
    rw (← c.self.view_is)
    (adds_push g.T.ReadSpec.reads g.T.WriteSpec.writes {gs = entries.items}
    {rest = vec_capacity entries - vec_len entries} _ (read_note r buf) refl c.push_reserved.ensures.items
    (ap Request.room (omega (arith, c.poll_read-polled.auto.buf))) c.read_answer-answer.ensures
    (read_note_fits r buf c.poll_read-polled.ensures.bound) (read_note_part r buf) c.poll_read-polled.ensures.ran
    (omega arith))
