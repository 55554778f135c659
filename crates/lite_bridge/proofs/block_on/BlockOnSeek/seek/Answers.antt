use Rattle.lite_bridge.specs.Uses.{◌∙◌, ap, sym}
use Rattle.lite_bridge.proofs.Blocks.{seek_blocks, seeker_stays}
use Rattle.lite_bridge.proofs.block_on.BlockOnSeek.seek.Goals as goal

pub shape_of-self : goal.shape_of-self
shape_of-self g c =
    sym (seeker_stays g.T.AsyncSeek.seeks _ _ _ c.wait_for.ensures.gave ∙ ap (λ t. t.seeker.ghost_name) c.seek.ensures)

pub returns-clause-ran : goal.returns-clause-ran
returns-clause-ran g c = rw c.seek.ensures at (seek_blocks g.T.AsyncSeek.seeks _ _ _ c.wait_for.ensures.gave)
