use Rattle.std.specs.Prelude.{◌≡◌, ◌-◌}
use Rattle.futures_lite.specs.Uses.{refl}
use Rattle.lite_views.proofs.Iter.{range_gives}
use Rattle.futures_lite.proofs.stream.iter_range.Goals as goal

pub returns-clause-lists : goal.returns-clause-lists
returns-clause-lists c n e =
    let k : c.iter.result.iter.end - c.iter.result.iter.start ≡ n = rw c.iter.ensures e in
    rw (← c.iter.ensures) (range_gives c.iter.result n k).0

pub returns-clause-fronts : goal.returns-clause-fronts
returns-clause-fronts c n e =
    let k : c.iter.result.iter.end - c.iter.result.iter.start ≡ n = rw c.iter.ensures e in
    rw (← c.iter.ensures) (refl, (range_gives c.iter.result n k).1)
