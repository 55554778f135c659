use Rattle.lite_base.specs.Laws.Alike.{alike_agrees}
use Rattle.lite_base.specs.Laws.Spent.{finishes_found}
use Rattle.lite_laws.proofs.both_values.block_on_both.Goals as goal

pub returns : goal.returns
returns g c =
    let one = c.in_ok-first.ensures.gave in
    let two = c.in_ok-second.ensures.gave in
    let steady = g.met.F.SteadyFuture.steady in
    let same = alike_agrees _ c.args.x c.args.y (steady.steady c.args.x c.args.y c.requires.alike) one.0 two.0 _ _ in
    record {
      ins = one.0;
      others = two.0;
      first = one.1;
      second = two.1;
      found = same;
      always = λ n. same (finishes_found (steady.found n) _ _ _ one.1) (finishes_found (steady.found n) _ _ _ two.1);
    }
