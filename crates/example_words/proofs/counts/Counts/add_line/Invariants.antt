use Rattle.std.proofs.Common.{◌≡◌, ◌+◌, ◌<◌, ◌≤◌, List, length, ℕ}
use Rattle.std.specs.List.{All}
use Rattle.example_words.specs.Records.{counted_records, total_count}
use Rattle.example_words.specs.Words.{occurrences}
use Rattle.example_words.proofs.counts.Counts.add_line.Given as goal

abbrev pub invariant-loop-word : goal.invariant-loop-word
invariant-loop-word l =
    ((w : List ℕ) → total_count (counted_records l.self) w + occurrences l.rest w ≡ total_count (counted_records l.fn.self) w + occurrences l.fn.line w)
    × (All (λ r. 0 < r.1) (counted_records l.fn.self) → All (λ r. 0 < r.1) (counted_records l.self))
    × ((w : List ℕ) → total_count (counted_records l.fn.self) w ≤ total_count (counted_records l.self) w)

abbrev pub decreases-loop-word : goal.decreases-loop-word
decreases-loop-word l = length l.rest
