use Rattle.std.proofs.Common.{◌≡◌, ◌*◌, ◌++◌, ◌∙◌, length, map, rules, arith, ap}
use Rattle.std.specs.Vec.Iter.{into_iter_items, into_iter_len}
use Rattle.futures_lite.specs.Answers.{items}
use Rattle.futures_lite.specs.Laws.Items.{on_ok, replaced_items, replaced_length}
use Rattle.futures_lite.specs.Laws.Sources.{vec_items}
use Rattle.nests_by_hand.proofs.nest.tripled.Goals as goal

pub returns : goal.returns
returns c =
    let ran = c.run.ensures.ran in
    let mapped = ran.2 in
    let start = ap (λ m. into_iter_items m.stream.iter) c.map-tripled.ensures.parts ∙ c.iter.ensures.0 in
    let count = ap (λ m. into_iter_len m.stream.iter) c.map-tripled.ensures.parts ∙ c.iter.ensures.1 in
    on_ok c.run.result
    (λ polled.
    let same = replaced_length _ _ _ mapped.ins ran.0 mapped.related in
    let came : mapped.ins ≡ items c.args.numbers.items =
    vec_items _ _ _ _ mapped.ins mapped.came (search (rules, start, count))
    (omega (arith, same, polled, c.len-polls.ensures, ap length start)) ∙ ap items start in
    let went : ran.0 ≡ items (map (λ x. x * 3) c.args.numbers.items) =
    replaced_items _ (λ x. x * 3) (λ p q x y called. search rules) _ _ c.args.numbers.items ran.0
    (rw came at mapped.related) in
    ran.1 ∙ ap (λ l. c.args.out.now.items ++ l) went)
    ran.3
