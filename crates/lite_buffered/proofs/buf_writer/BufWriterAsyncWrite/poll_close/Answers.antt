use Rattle.std.specs.Prelude.{◌≡◌, Ok}
use Rattle.lite_buffered.specs.Uses.{rules, refl, Ready, WriteMark}
use Rattle.lite_buffered.proofs.Answering.{then_done}
use Rattle.lite_buffered.proofs.buf_writer.BufWriterAsyncWrite.poll_close.Goals as goal

pub returns-in-Ok-clause-ran : goal.returns-in-Ok-clause-ran
returns-in-Ok-clause-ran g c =
    let got : c.flush_buf.result ≡ Ready (Ok c.in-Ok.field-0) = search rules in
    then_done g.W.WriteSpec.writes g.W.WriteSpec.write_laws WriteMark.closed (λ n. (refl, refl, refl)) _ _ _
    c.poll_close.result (rw got at c.flush_buf.ensures.ran) c.poll_close.ensures.ran refl refl
