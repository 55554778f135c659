use Rattle.std.proofs.Common.{None, Some, [], ◌∷◌, arith, rules}
use Rattle.std.proofs.lemmas.Grind.{common_steps}
use Rattle.nests_by_hand.proofs.unfolding.below_two.Goals as goal

-- for each seed: the closure stays, the value of its future, that it has this value, and what comes next
pub returns : goal.returns
returns g c =
    let listed = c.unfold-below_two.ensures.lists.0 0 (1 ∷ [])
    (λ v q called. (
      grind (arith, common_steps),
      Some (0, 1),
      grind (arith, common_steps),
      (
        grind (arith, common_steps),
        λ v q called. (
          grind (arith, common_steps),
          Some (1, 2),
          grind (arith, common_steps),
          (
            grind (arith, common_steps),
            λ v q called. (grind (arith, common_steps), None, grind (arith, common_steps), grind (arith, common_steps)),
          ),
        ),
      ),
    )) in
    search rules
