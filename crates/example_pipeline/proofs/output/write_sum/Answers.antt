use Rattle.std.proofs.Common.{◌∙◌}
use Rattle.example_pipeline.proofs.Added.{digits_fail, line_fails, line_written, on_error, on_ok}
use Rattle.example_pipeline.proofs.output.write_sum.Goals as goal

pub returns-in-Ok-clause-written : goal.returns-in-Ok-clause-written
returns-in-Ok-clause-written g c =
    on_ok c.write-in-Ok.result
    (λ h. line_written g.O.WriteSpec.writes g.O.WriteSpec.write_laws c.args.output.now c.write.new.output c.write-in-Ok.new.output
    c.as_bytes.result.now c.args.sum (c.as_bytes.ensures.value ∙ c.format.ensures.text) c.in-Ok.ensures.written h)
    c.write-in-Ok.ensures.written

pub returns-in-Ok-clause-failed : goal.returns-in-Ok-clause-failed
returns-in-Ok-clause-failed g c =
    on_error c.write-in-Ok.result
    (λ e h. line_fails g.O.WriteSpec.writes g.O.WriteSpec.write_laws c.args.output.now c.write.new.output c.write-in-Ok.new.output
    c.as_bytes.result.now c.args.sum e (c.as_bytes.ensures.value ∙ c.format.ensures.text) c.in-Ok.ensures.written h)
    c.write-in-Ok.ensures.failed

pub returns-in-Err-clause-failed : goal.returns-in-Err-clause-failed
returns-in-Err-clause-failed g c =
    digits_fail g.O.WriteSpec.writes g.O.WriteSpec.write_laws c.args.output.now c.args.output.now c.write.new.output c.as_bytes.result.now
    c.args.sum c.in-Err.e (c.as_bytes.ensures.value ∙ c.format.ensures.text) c.in-Err.ensures.failed
