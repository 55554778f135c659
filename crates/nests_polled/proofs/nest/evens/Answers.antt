use Rattle.std.proofs.Common.{rules}
use Rattle.futures_lite.specs.Laws.Each.{each_kept}
use Rattle.nests_polled.proofs.nest.evens.Goals as goal

pub returns : goal.returns
returns c =
    let ran = c.run.ensures.ran in
    record {
      even = (
        ran.0,
        ran.1,
        ran.3,
        ran.4,
        each_kept _ _ (λ p q x y called. search rules) _ _ ran.2.ins ran.0 ran.2.related,
      );
    }
