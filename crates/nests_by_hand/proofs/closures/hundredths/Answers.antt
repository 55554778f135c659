use Rattle.std.proofs.Common.{◌<◌, ◌≤◌, rules}
use Rattle.std.specs.List.{AllByRecursion}
use Rattle.std.specs.Vec.Iter.{into_iter_items}
use Rattle.futures_lite.specs.Laws.Each.{each_any, each_replaced}
use Rattle.futures_lite.specs.Laws.Sources.{given_of_vec}
use Rattle.nests_by_hand.proofs.closures.hundredths.Goals as goal

pub run-requires : goal.run-requires
run-requires c =
    let all : AllByRecursion (λ y. 0 < y) (into_iter_items c.iter.result.iter) = rw c.iter.ensures.0 c.requires in
    rw c.map-quotients.ensures.parts (
      search rules,
      record {
        at = λ ins x t p came asked. let above : 0 < x =
            given_of_vec _ _ (λ y. 0 < y) _ _ ins x all came in search rules;
      },
    )

pub returns : goal.returns
returns c =
    let ran = c.run.ensures.ran in (
      ran.0,
      ran.1,
      ran.3,
      ran.4,
      each_replaced _ _ (λ y. y ≤ 100) (λ p q x y any called. search rules) _ _ ran.2.ins ran.0
          (each_any ran.2.ins) ran.2.related,
    )
