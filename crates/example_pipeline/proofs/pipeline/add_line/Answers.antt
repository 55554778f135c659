use Rattle.example_pipeline.proofs.Added.{add_none, add_some, add_unwritten}
use Rattle.example_pipeline.proofs.pipeline.add_line.Goals as goal

pub returns-in-Ok-clause-added : goal.returns-in-Ok-clause-added
returns-in-Ok-clause-added g c =
    add_some g.O.WriteSpec.writes g.O.WriteSpec.write_laws c.args.line.now c.without_end.result.now c.args.sums.now c.add_number.new.sums
    c.args.output.now c.write_sum.new.output c.in_ok-item.item c.without_end.ensures c.in_ok-item.ensures.number c.in-Ok-Some.field-0
    c.in-Ok-Some.ensures.added c.in-Ok-Some.sum c.in-Ok-Some.field-0-is c.in-Ok.ensures.written

pub returns-in-Err-write_sum-clause-failed : goal.returns-in-Err-write_sum-clause-failed
returns-in-Err-write_sum-clause-failed g c =
    add_unwritten g.O.WriteSpec.writes g.O.WriteSpec.write_laws c.args.line.now c.without_end.result.now c.args.sums.now c.add_number.new.sums
    c.args.output.now c.write_sum.new.output c.in_ok-item.item c.without_end.ensures c.in_ok-item.ensures.number c.in-Ok-Some.field-0
    c.in-Ok-Some.ensures.added c.in-Ok-Some.sum c.in-Err-write_sum.e c.in-Ok-Some.field-0-is c.in-Err-write_sum.ensures.failed

pub returns-in-Ok-None-clause-added : goal.returns-in-Ok-None-clause-added
returns-in-Ok-None-clause-added g c =
    add_none g.O.WriteSpec.writes g.O.WriteSpec.write_laws c.args.line.now c.without_end.result.now c.args.sums.now c.add_number.new.sums
    c.args.output.now c.args.output.now c.in_ok-item.item c.without_end.ensures c.in_ok-item.ensures.number c.in-Ok-None.field-0
    c.in-Ok-None.ensures.added c.in-Ok-None.field-0-is
