use Rattle.nests_agree.proofs.FoundLines.{gathered_found}
use Rattle.lite_base.specs.Alike.{Sameness}
use Rattle.lite_read.specs.Laws.Marks.{SameText}
use Rattle.lite_io_base.specs.Steady.{SameOr}
use Rattle.nests_agree.proofs.Found.{both_found, gathered_as, same_items, taken_ample}
use Rattle.nests_agree.proofs.collected.gathered_lines_agree.Goals as goal

pub returns : goal.returns
returns g c =
    let found = gathered_found (taken_ample (g.met.T.SteadyRead.steady.found c.requires.found)) _ in
    both_found _ _ c.collect-gathered.result c.collect-more.result found
    (gathered_as
    (same_items (Sameness.by (SameOr SameText)) (λ v. v.items))) c.block_on_both.result c.block_on_both.ensures
