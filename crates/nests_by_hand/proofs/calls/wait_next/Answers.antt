use Rattle.std.proofs.Common.{rules}
use Rattle.futures_lite.specs.Lists.{LeftAs}
use Rattle.nests_by_hand.proofs.calls.wait_next.Goals as goal

-- The clause `left` of `next`, at what the wait leaves.
pub returns-clause-left : goal.returns-clause-left
unfolding LeftAs
returns-clause-left g c xs lists =
    let known = c.next.ensures.left.0 xs lists c.wait_for.result c.wait_for.new.future
    (c.wait_for.ensures.gave, c.wait_for.ensures.unchanged) in
    search rules
