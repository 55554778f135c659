use Rattle.std.proofs.Common.{◌∙◌, sym}
use Rattle.properties_met.proofs.Held.{none_held}
use Rattle.properties_met.proofs.writers.adapters_have_properties.Goals as goal

pub returns-clause-buf_writer : goal.returns-clause-buf_writer
returns-clause-buf_writer g c =
    (none_held _ _ _ c.requires.empty.0 ∙ sym (none_held _ _ _ c.requires.empty.1), c.requires.written)
