use Rattle.std.proofs.Common.{◌*◌, ◌%◌, ◌∙◌, ap, rules}
use Rattle.std.proofs.lemmas.Bool.{eq-eqb, ne_eqb}
use Rattle.std.specs.Prelude.{nat_eq}
use Rattle.std.specs.Vec.Iter.{into_iter_items}
use Rattle.futures_lite.specs.Laws.Items.{cut_front, left_front, replaced_front}
use Rattle.futures_lite.specs.Laws.Sources.{vec_front}
use Rattle.nests_by_hand.proofs.nest.first_evens.Goals as goal

pub returns : goal.returns
returns c =
    let ran = c.run.ensures.ran in
    -- what came into the take, into the filter and into the map
    let taken = ran.2 in
    let left = taken.came in
    let mapped = left.came in
    -- and what stands first in it, from the inside out
    let given = vec_front _ _ _ _ mapped.ins mapped.came in
    let triples = replaced_front _ (λ x. x * 3)
    (λ p q x y called. search rules) _ _ _ mapped.ins left.ins given mapped.related in
    let evens =
    left_front _ (λ x. nat_eq (x % 2) 0) (λ p q x y called. (called.0, eq-eqb (x % 2) 0 (search rules)))
    (λ p q x called. ne_eqb (x % 2) 0 (λ even. search (rules, even))) _ _ _ left.ins taken.ins triples left.related in
    let firsts = cut_front _ _ _ taken.ins ran.0 evens taken.related in
    -- the nest began with the numbers and with the count
    let mapping = ap (λ m. into_iter_items m.stream.iter) c.map-tripled.ensures.parts ∙ c.iter.ensures.0 in
    let filtering = ap (λ m. into_iter_items m.stream.stream.iter) c.filter.ensures.parts ∙ mapping in
    let numbers = ap (λ m. into_iter_items m.stream.stream.stream.iter) c.take-evens.ensures.parts ∙ filtering in
    let count = ap (λ m. m.n) c.take-evens.ensures.parts in
    (ran.0, ran.1, ran.3, ran.4, rw (numbers, count) at firsts)
