use Rattle.std.proofs.Common.{◌≡◌}
use Rattle.nests_agree.proofs.FoundLines.{tried_found}
use Rattle.lite_base.specs.Alike.{Sameness}
use Rattle.lite_read.specs.Laws.Marks.{SameText}
use Rattle.nests_agree.proofs.Found.{both_found, same_items, try_gathered_as}
use Rattle.nests_agree.proofs.collected.tried_lines_agree.Goals as goal

pub returns : goal.returns
returns g c =
    let found = tried_found (g.met.T.SteadyRead.steady.found c.requires.found) _ (λ v l. v.items ≡ l) in
    both_found _ _ c.try_collect-tried.result c.try_collect-more.result found
    (try_gathered_as
    (same_items (Sameness.by SameText) (λ v. v.items)) _) c.block_on_both.result c.block_on_both.ensures
