use Rattle.example_pipeline.proofs.Added.{on_error}
use Rattle.example_pipeline.proofs.Taken.{flush_fails}
use Rattle.example_pipeline.specs.Pipeline.{last_sums, text_of_sums}
use Rattle.example_pipeline.proofs.pipeline.finish.Goals as goal

pub returns-in-Ok-clause-failed : goal.returns-in-Ok-clause-failed
returns-in-Ok-clause-failed g c =
    on_error c.finish_early.result
    (λ e h l held. flush_fails g.O.WriteSpec.writes g.O.WriteSpec.write_laws c.args.output.now c.write_last.new.output
    c.finish_early.new.output (text_of_sums (last_sums l)) e.cause (c.in-Ok.ensures.written l held) h)
    c.finish_early.ensures.failed
