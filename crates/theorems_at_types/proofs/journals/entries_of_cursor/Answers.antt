use Rattle.theorems_at_types.proofs.journals.entries_of_cursor.Goals as goal

pub returns : goal.returns
returns c = c.entries.ensures.replays (λ x y h. λ i. record { inner = h.0 i; position = h.1 i })
