use Rattle.std.proofs.Common.{◌≡◌, ◌++◌}
use Rattle.example_words.proofs.Tables.{records_of}
use Rattle.example_words.specs.Records.{counted_records, record_lines}
use Rattle.example_words.proofs.counts.Counts.text.Given as goal

abbrev pub invariant-loop-word : goal.invariant-loop-word
invariant-loop-word l = l.text.items ++ record_lines (records_of l.word-iterator) ≡ record_lines (counted_records l.fn.self)
