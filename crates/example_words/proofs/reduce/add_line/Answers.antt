use Rattle.example_words.proofs.Runs.{on_ok}
use Rattle.example_words.proofs.reduce.add_line.Goals as goal

pub returns-clause-added : goal.returns-clause-added
returns-clause-added c =
    on_ok c.add.result
    (λ h. (
      (c.in_ok-parse_record.field-0.word.now, c.in_ok-parse_record.field-0.count),
      c.in_ok-parse_record.ensures.line,
      h.0,
      h.1,
      λ done read holds. h.2 done read c.in_ok-parse_record.ensures.positive holds,
    ))
    c.add.ensures.added
