use Rattle.std.specs.Prelude.{length}
use Rattle.futures_lite.specs.Uses.{subst, at_most, GivesAll}
use Rattle.lite_views.proofs.Iter.{array_gives}
use Rattle.std.specs.Array.Iter.{array_into_iter_items, array_steps}
use Rattle.futures_lite.proofs.stream.iter_array.Goals as goal

pub returns : goal.returns
returns g c =
    let all = subst
    (GivesAll array_steps (λ i. at_most (length (array_into_iter_items i))) c.iter.result) c.iter.ensures.0
    (array_gives _ c.iter.result) in
    record {
      fronts = all.1;
      lists = all.0;
    }
