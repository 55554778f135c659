-- `step_by`: the source's items are numbered, across `Pending`s and ends of stream, and those whose number is a
-- multiple of the step are kept.
use Rattle.std.specs.Prelude.{◌≡◌, ◌==◌, ℕ, ◌+◌, ◌%◌, ◌<◌, List, [], ◌∷◌, Option}
use Rattle.lite_reshape.specs.Uses.{Answer, Runs, AdapterParts, Through, parts_of}
use Rattle.lite_reshape.specs.Leaving.{LeavesOut, Selects}
use Rattle.lite_reshape.specs.declared.step_by.StepBy.{StepBy}

-- The item with the number `n` is kept if `n` is a multiple of the step, and is left out otherwise. The next item has
-- the number `n + 1`.
abbrev pub Numbered : {A : Type 0} → ℕ → ℕ → A → Option A → ℕ → Type 0
Numbered step = Selects (λ n x. n % step == 0) (λ n x. n + 1)

-- The next item may have the number `n`, if `p.1` more items are left out before the next is kept: `n + p.1` is a
-- multiple of the step `p.0`, and `p.1` is less than that.
abbrev pub IsAt : ℕ × ℕ → ℕ → Type 0
IsAt p n = (p.1 < p.0) × ((n + p.1) % p.0 ≡ 0)

-- The source's results without the items whose number is not a multiple of the step. The numbers fit the step and the
-- count before and after. Without a result both stay as they are.
abbrev pub StepsOn : {A : Type 0} → ℕ × ℕ → List (Answer A) → List (Answer A) → ℕ × ℕ → Type 0
StepsOn p ins [] q = (ins ≡ []) × (q ≡ p)
StepsOn p ins (b ∷ out) q =
    (q.0 ≡ p.0) × (n : ℕ) × (m : ℕ) × IsAt p n × IsAt q m × LeavesOut (Numbered p.0) n ins (b ∷ out) m

-- The stream may be polled: the source may be polled, and fewer items than the step are left out before the next kept
-- one.
abbrev pub CanStep : {S : Type 0} → (S → Type 0) → StepBy S → Type 0
CanStep can_poll x = can_poll x.stream × (x.i < x.step)

-- The source's results without the items whose number is not a multiple of the step. The numbers run on across
-- `Pending`s and ends of stream.
abbrev pub StepsBy : {S A : Type 0} → Runs (Answer A) S → Runs (Answer A) (StepBy S)
StepsBy run x l y = Through run StepsOn x.stream (x.step, x.i) l y.stream (y.step, y.i)

-- A `StepBy` consists of its source, and of its step with how many items are left out before the next kept one.
abbrev pub step_by_parts : {S : Type 0} → AdapterParts (StepBy S) S (ℕ × ℕ)
step_by_parts =
    parts_of (λ m. m.stream) (λ m. (m.step, m.i)) (λ s h. record { stream = s; step = h.0; i = h.1 }) (λ x y p. p)
