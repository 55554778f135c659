use Rattle.lite_bridge.specs.Uses.{◌∙◌, ap, sym}
use Rattle.lite_bridge.proofs.Blocks.{flush_blocks, flushed_stays}
use Rattle.lite_bridge.proofs.block_on.BlockOnWrite.flush.Goals as goal

pub shape_of-self : goal.shape_of-self
shape_of-self g c = sym (flushed_stays _ _ _ c.wait_for.ensures.gave ∙ ap (λ t. t.writer.ghost_name) c.flush.ensures)

pub returns-clause-ran : goal.returns-clause-ran
returns-clause-ran g c = rw c.flush.ensures at (flush_blocks g.T.WriteSpec.write_laws _ _ _ c.wait_for.ensures.gave)
