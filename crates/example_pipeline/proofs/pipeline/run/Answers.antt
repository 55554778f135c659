use Rattle.example_pipeline.proofs.Added.{close_fails, closed, finish_whole, finish_whole_fails, on_error, on_ok}
use Rattle.example_pipeline.proofs.pipeline.run.Goals as goal

pub returns-in-Ok-clause-whole : goal.returns-in-Ok-clause-whole
returns-in-Ok-clause-whole g c =
    on_ok c.finish.result
    (λ h. finish_whole g.T.ReadSpec.reads g.O.WriteSpec.writes g.T.ReadSpec.read_laws g.O.WriteSpec.write_laws c.args.reader.now
    c.add_lines.new.reader c.args.output.now c.add_lines.new.output c.finish.new.output c.add_lines.new.sums c.in-Ok.ensures.whole h)
    c.finish.ensures.written

pub returns-in-Ok-clause-stopped : goal.returns-in-Ok-clause-stopped
returns-in-Ok-clause-stopped g c =
    on_error c.finish.result
    (λ e h. finish_whole_fails g.T.ReadSpec.reads g.O.WriteSpec.writes g.T.ReadSpec.read_laws g.O.WriteSpec.write_laws c.args.reader.now
    c.add_lines.new.reader c.args.output.now c.add_lines.new.output c.finish.new.output c.add_lines.new.sums e.cause e.line
    c.in-Ok.ensures.whole h)
    c.finish.ensures.failed

pub returns-in-Ok-close-clause-stopped : goal.returns-in-Ok-close-clause-stopped
returns-in-Ok-close-clause-stopped g c =
    closed g.T.ReadSpec.reads g.O.WriteSpec.writes g.T.ReadSpec.read_laws g.O.WriteSpec.write_laws c.args.reader.now
    c.add_lines.new.reader c.args.output.now c.add_lines.new.output c.close.new.output c.add_lines.new.sums c.in-Err.e.cause
    c.in-Err.e.line c.in-Err.ensures.stopped c.in-Ok-close.ensures.closed

pub returns-in-Err-close-clause-stopped : goal.returns-in-Err-close-clause-stopped
returns-in-Err-close-clause-stopped g c =
    close_fails g.T.ReadSpec.reads g.O.WriteSpec.writes g.T.ReadSpec.read_laws g.O.WriteSpec.write_laws c.args.reader.now
    c.add_lines.new.reader c.args.output.now c.add_lines.new.output c.close.new.output c.add_lines.new.sums c.in-Err.e.cause
    c.in-Err-close.failed.cause c.in-Err.e.line c.in-Err-close.failed.line c.in-Err.ensures.stopped c.in-Err-close.ensures.failed
