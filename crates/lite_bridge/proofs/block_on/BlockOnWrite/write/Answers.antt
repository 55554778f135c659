use Rattle.lite_bridge.specs.Uses.{◌∙◌, ap, sym}
use Rattle.lite_bridge.proofs.Blocks.{write_blocks, write_within, writer_stays}
use Rattle.lite_bridge.proofs.block_on.BlockOnWrite.write.Goals as goal

pub shape_of-self : goal.shape_of-self
shape_of-self g c = sym (writer_stays _ _ _ c.wait_for.ensures.gave ∙ ap (λ t. t.writer.ghost_name) c.write.ensures)

pub returns-clause-bound : goal.returns-clause-bound
returns-clause-bound g c = rw c.write.ensures at (write_within _ _ _ c.wait_for.ensures.gave)

pub returns-clause-ran : goal.returns-clause-ran
returns-clause-ran g c = rw c.write.ensures at (write_blocks g.T.WriteSpec.write_laws _ _ _ c.wait_for.ensures.gave)
