use Rattle.std.proofs.Common.{rules, ◌<◌}
use Rattle.futures_lite.specs.Laws.Each.{each_kept}
use Rattle.futures_lite.specs.Laws.Sources.{each_given}
use Rattle.nests_polled.proofs.nest.hundredths.Goals as goal

pub run-requires : goal.run-requires
run-requires c =
    let filters = c.filter-quotients.ensures.parts in
    let maps = c.map.ensures.parts in
    rw filters (rw maps (
      (
        tt,
        record {
          at = λ ins x t p came asked. let above : 0 < x =
              each_given (λ y. 0 < y) c.args.script t ins x c.requires came in search rules;
        },
      ),
      tt,
      search rules,
    ))

pub returns : goal.returns
returns c =
    let ran = c.run.ensures.ran in
    (ran.0, ran.1, ran.3, ran.4, each_kept _ _ (λ p q x y called. search rules) _ _ ran.2.ins ran.0 ran.2.related)
