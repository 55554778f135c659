use Rattle.theorems_at_types.proofs.journals.entries_of_marks.Goals as goal

pub returns : goal.returns
returns c = c.entries.ensures.replays (λ x y h. h)
