use Rattle.example_words.proofs.Taken.{flush_fails}
use Rattle.example_words.proofs.output.write_last.Goals as goal

pub returns-in-Ok-Err-clause-failed : goal.returns-in-Ok-Err-clause-failed
returns-in-Ok-Err-clause-failed g c =
    let flush = c.in-Ok-Err.ensures.took in
    flush_fails g.O.WriteSpec.writes g.O.WriteSpec.write_laws c.args.output.now c.write.new.output c.wait_flush.new.writer c.args.text.now
    flush.0 c.in-Ok-Err.e c.in_ok-write.ensures.written flush.1 flush.2 (rw c.in-Ok-Err.field-0-is at flush.3)
