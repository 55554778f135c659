use Rattle.std.specs.Prelude.{◌≡◌, ◌+◌, ◌≤◌, ◌++◌, length, vec_capacity, vec_len}
use Rattle.std.specs.List.{filter_map}
use Rattle.example_executor.proofs.outcomes.append_values.Given as goal

abbrev pub invariant-loop-task : goal.invariant-loop-task
invariant-loop-task g l =
    (l.values.items ≡ l.initial.values.items ++ filter_map (λ task. task.value) l.yielded)
    × (vec_capacity l.values ≡ vec_capacity l.initial.values)
    × (vec_len l.values ≤ vec_len l.initial.values + length l.yielded)
