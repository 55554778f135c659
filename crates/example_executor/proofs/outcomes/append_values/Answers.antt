use Rattle.std.proofs.Common.{arith}
use Rattle.std.proofs.lemmas.Grind.{common_steps}
use Rattle.std.proofs.lemmas.List.Elements.{filter_map-append}
use Rattle.example_executor.proofs.outcomes.append_values.Goals as goal

pub loop-task-preserved-in-Some-into_value : goal.loop-task-preserved-in-Some-into_value
loop-task-preserved-in-Some-into_value g c = grind (arith, common_steps, filter_map-append)

pub loop-task-preserved : goal.loop-task-preserved
loop-task-preserved g c = grind (arith, common_steps, filter_map-append)
