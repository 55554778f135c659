use Rattle.std.specs.Prelude.{length}
use Rattle.futures_lite.specs.Uses.{◌∙◌, ap, subst, at_most, GivesAll}
use Rattle.lite_views.proofs.Iter.{vec_gives}
use Rattle.std.proofs.Common.{sym}
use Rattle.std.specs.Vec.Iter.{into_iter_len, into_iter_steps}
use Rattle.futures_lite.proofs.stream.iter_vec.Goals as goal

pub returns : goal.returns
returns g c =
    let e = c.iter.ensures in
    let counted = e.1 ∙ c.args.items.ok.0 ∙ ap length (sym e.0) in
    let all = subst (GivesAll into_iter_steps (λ i. at_most (into_iter_len i)) c.iter.result) e.0
    (vec_gives _ c.iter.result counted) in
    record {
      fronts = all.1;
      small = rw (← c.args.items.ok.0, ← e.1) e.2;
      lists = all.0;
    }
