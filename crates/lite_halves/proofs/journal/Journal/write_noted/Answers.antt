use Rattle.std.specs.Prelude.{◌-◌, vec_capacity, vec_len}
use Rattle.lite_halves.specs.Uses.{ap, arith, refl}
use Rattle.std.proofs.Common.{rules}
use Rattle.lite_halves.specs.Entry.{Request, write_note}
use Rattle.lite_halves.specs.Laws.Entry.{write_note_fits, write_note_part}
use Rattle.lite_halves.proofs.Noted.{adds_push, sound_push}
use Rattle.lite_halves.proofs.journal.Journal.write_noted.Goals as goal

pub invariant_of-self : goal.invariant_of-self
invariant_of-self g c =
    let r = c.poll_write-polled.result in
    let buf = c.args.buf.now in
    let entries = c.push_reserved.new.self in
    sound_push g.T.ReadSpec.reads g.T.WriteSpec.writes {gs = entries.items}
    {rest = vec_capacity entries - vec_len entries} g.T.Clone.is_clone _ (write_note r buf) c.self.invariant
    refl c.push_reserved.ensures.items (ap Request.offer (search rules))
    c.write_answer-answer.ensures (write_note_fits r buf c.poll_write-polled.ensures.bound) (write_note_part r buf)
    c.poll_write-polled.ensures.ran (omega arith)

pub returns-clause-added : goal.returns-clause-added
returns-clause-added g c =
    let r = c.poll_write-polled.result in
    let buf = c.args.buf.now in
    let entries = c.push_reserved.new.self in
    rw (← c.self.view_is)
    (adds_push g.T.ReadSpec.reads g.T.WriteSpec.writes {gs = entries.items}
    {rest = vec_capacity entries - vec_len entries} _ (write_note r buf) refl c.push_reserved.ensures.items
    (ap Request.offer (search rules)) c.write_answer-answer.ensures
    (write_note_fits r buf c.poll_write-polled.ensures.bound) (write_note_part r buf) c.poll_write-polled.ensures.ran
    (omega arith))
