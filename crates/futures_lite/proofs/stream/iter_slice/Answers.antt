use Rattle.std.specs.Prelude.{length}
use Rattle.futures_lite.specs.Uses.{◌∙◌, ap, subst, at_most, GivesAll}
use Rattle.lite_views.proofs.Iter.{slice_gives}
use Rattle.std.specs.Iterator.Adapters.{copied_source, copied_steps}
use Rattle.std.specs.Slice.Iter.{iter_rest, iter_steps}
use Rattle.futures_lite.proofs.stream.iter_slice.Goals as goal

pub returns : goal.returns
returns g c =
    let e = ap (λ i. iter_rest (copied_source i)) c.iter-2.ensures ∙ ap iter_rest c.copied.ensures.source
    ∙ c.iter.ensures.rest in
    let all =
    subst (GivesAll (copied_steps iter_steps) (λ i. at_most (length (iter_rest (copied_source i)))) c.iter-2.result) e
    (slice_gives _ c.iter-2.result) in
    record {
      fronts = all.1;
      small = rw c.iter.ensures.rest at c.iter.ensures.bound;
      lists = all.0;
    }
