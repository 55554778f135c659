-- A write that took bytes by an order, or with no order left, whether some were offered or none.
use Rattle.std.proofs.Common.{◌≡◌, ◌≤◌, ℕ, zero, suc, List, [], ◌∷◌, ◌++◌, Ok, length, take, inl, inr, refl, append-nil}
use Rattle.std.proofs.Common.{arith, rules}
use Rattle.std.proofs.lemmas.Grind.{common_steps}
use Rattle.std.specs.Prelude.{◌⊎◌}
use Rattle.futures.specs.declared.task.Poll.TheVariants.{Ready}
use Rattle.lite_mock.specs.declared.takes.Order.TheVariants.{AtMost}
use Rattle.lite_io_base.specs.WriteMarks.{write_marks}
use Rattle.lite_mock.specs.Takes.{AllObey, Orders}
use Rattle.lite_mock.proofs.takes.TakesAsyncWrite.poll_write.Goals as goal

take_none : (n : ℕ) → take {A = ℕ} n [] ≡ []
take_none zero = refl
take_none (suc n) = refl

takes_some : (x y : Orders) (n : ℕ) (xs : List ℕ) → y.taken ≡ x.taken ++ take n xs
    → ((x.orders ≡ []) × (y.orders ≡ [])) ⊎ ((k : ℕ) × (x.orders ≡ AtMost k ∷ y.orders) × (length (take n xs) ≤ k))
    → AllObey x (write_marks (Ready (Ok n)) xs) y
takes_some x y n [] took (inl none) = (y, (rw took (rw take_none (append-nil x.taken)), inl none), refl)
takes_some x y n [] took (inr (k, is, fits)) = (y, (rw took (rw take_none (append-nil x.taken)), inr (k, is)), refl)
takes_some x y n (b ∷ bs) took by = (y, (took, by), refl)

pub returns-then-is_some-clause-ran : goal.returns-then-is_some-clause-ran
returns-then-is_some-clause-ran c =
    takes_some c.args.self.now _ c.match-order.most c.args.buf.now (first_of (search rules, grind (arith, common_steps)))
    (first_of (search rules, grind (arith, common_steps)))

pub returns-else-is_some-clause-ran : goal.returns-else-is_some-clause-ran
returns-else-is_some-clause-ran c =
    takes_some c.args.self.now _ c.match-order.most c.args.buf.now (first_of (search rules, grind (arith, common_steps)))
    (first_of (search rules, grind (arith, common_steps)))
