use Rattle.std.proofs.Common.{sym}
use Rattle.theorems_at_types.proofs.Given.{both_held, given_as}
use Rattle.theorems_at_types.proofs.scripts.or_collected.Goals as goal

pub returns : goal.returns
returns g c =
    let f = c.collect_or-collection.ensures in
    given_as
    (λ v h. rw (sym c.script.ensures.made, sym c.script-2.ensures.made)
    (both_held (λ w. w.items) v (rw f.merged at (f.whole _ _ _ h.2 h.3)))) c.given.result c.given.ensures
