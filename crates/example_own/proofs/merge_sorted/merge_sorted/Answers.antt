use Rattle.example_own.specs.Merged.{merge_sorted_lists}
use Rattle.example_own.proofs.merge_sorted.merge_sorted.Goals as goal

pub returns-clause-lists : goal.returns-clause-lists
returns-clause-lists g c =
    rw (c.new.ensures, c.new-2.ensures)
    (merge_sorted_lists g.met.S.Stream.laws g.met.T.Stream.laws c.args.left c.args.right)
