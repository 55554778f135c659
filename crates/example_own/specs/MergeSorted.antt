-- Two streams merged in order: what one poll returns and leaves.
use Rattle.std.specs.Prelude.{◌≡◌, ◌⊎◌, ◌<◌, ◌≤◌, ⊤, ℕ, List, [], ◌∷◌, Some, None, if◌then◌else◌, nat_le}
use Rattle.futures_lite.specs.Answers.{Answer, Pending, Ready, end, item}
use Rattle.futures_lite.specs.Contexts.{Lasting}
use Rattle.futures_lite.specs.Own.{Runs}
use Rattle.example_own.specs.Side.{Filled, SideRegisters, unanswered}
use Rattle.example_own.specs.declared.merge_sorted.MergeSorted.{MergeSorted}
use Rattle.example_own.specs.declared.side.Side.{Side}

-- The two lists in one: the smaller of their first items comes first, and the left one if they are equal.
abbrev pub merge_sorted : List ℕ → List ℕ → List ℕ
merge_sorted [] ys = ys
merge_sorted (x ∷ xs) [] = x ∷ xs
merge_sorted (x ∷ xs) (y ∷ ys) =
    if nat_le x y then x ∷ merge_sorted xs (y ∷ ys) else y ∷ merge_sorted (x ∷ xs) ys

-- The answer is there, and if it is an item, `P` holds of that.
abbrev pub IfItem : (ℕ → Type 0) → Answer ℕ → Type 0
IfItem P Pending = ⊥
IfItem P (Ready None) = ⊤
IfItem P (Ready (Some x)) = P x

-- The sides `l` and `r`, which were filled, yield this result and leave `y`.
abbrev pub SidesYield : {S T : Type 0} → Side S → Side T → Answer ℕ → MergeSorted S T → Type 0
SidesYield l r Pending y = ((l.answer ≡ Pending) ⊎ (r.answer ≡ Pending)) × (y ≡ record { left = l; right = r })
SidesYield l r (Ready None) y = (l.answer ≡ end) × (r.answer ≡ end) × (y ≡ record { left = l; right = r })
SidesYield l r (Ready (Some n)) y =
    ((l.answer ≡ item n) × IfItem (λ m. n ≤ m) r.answer × (y ≡ record { left = unanswered l.stream; right = r }))
    ⊎ ((r.answer ≡ item n) × IfItem (λ m. n < m) l.answer × (y ≡ record { left = l; right = unanswered r.stream }))

-- One poll of `x` returns this result and leaves `y`: both sides are filled, and then they yield it.
abbrev pub MergeStep : {S T : Type 0} → Runs (Answer ℕ) S → Runs (Answer ℕ) T → MergeSorted S T → Answer ℕ
    → MergeSorted S T → Type 0
MergeStep {S} {T} run run' x a y =
    (l : Side S) × (r : Side T) × Filled run x.left l × Filled run' x.right r × SidesYield l r a y

-- What a poll that returns `Pending` registers: what both sides do.
abbrev pub SidesRegister : {S T : Type 0} → (S → Lasting → Type 0) → (T → Lasting → Type 0) → MergeSorted S T → Lasting
    → Type 0
SidesRegister registers registers' x fact = SideRegisters registers x.left fact ⊎ SideRegisters registers' x.right fact
