use Rattle.lite_bridge.specs.Uses.{◌∙◌, ap, sym}
use Rattle.std.proofs.Common.{rules}
use Rattle.lite_bridge.proofs.Blocks.{buf_stays, read_blocks, read_in_room, reader_stays}
use Rattle.lite_bridge.proofs.block_on.BlockOnRead.read.Goals as goal

pub shape_of-self : goal.shape_of-self
shape_of-self g c = sym (reader_stays _ _ _ c.wait_for.ensures.gave ∙ ap (λ t. t.reader.ghost_name) c.read.ensures)

pub returns-clause-bound : goal.returns-clause-bound
returns-clause-bound g c =
    let name = buf_stays _ _ _ c.wait_for.ensures.gave ∙ ap (λ t. t.buf.ghost_name) c.read.ensures in
    let bound = read_in_room _ _ _ c.wait_for.ensures.gave in
    search rules

pub returns-clause-ran : goal.returns-clause-ran
returns-clause-ran g c =
    let name = buf_stays _ _ _ c.wait_for.ensures.gave ∙ ap (λ t. t.buf.ghost_name) c.read.ensures in
    let ran = read_blocks g.T.ReadSpec.read_laws _ _ _ c.wait_for.ensures.gave in
    search rules
