-- What one poll of a countdown returns, and the countdown's value.
use Rattle.std.specs.Prelude.{◌≡◌, ℕ, ◌-◌, ◌<◌}
use Rattle.std.specs.declared.alloc.AllocError.{AllocError}
use Rattle.std.proofs.Common.{◌∙◌, ap}
use Rattle.futures_lite.specs.Answers.{Pending, Poll, Ready}
use Rattle.futures_lite.specs.Lists.{ValueHolds}
use Rattle.futures_lite.specs.Own.{StepsToValue, value_by_steps}
use Rattle.example_own.specs.declared.countdown.Countdown.{Countdown}

-- One poll of `x` returns this result and leaves `y`.
abbrev pub CountdownStep : Countdown → Poll ℕ → Countdown → Type 0
CountdownStep x Pending y = (0 < x.left) × (y ≡ record x { left = x.left - 1 })
CountdownStep x (Ready v) y = (x.left ≡ 0) × (v ≡ x.value) × (y ≡ x)

-- The future returns the value that it was made with, which each `Pending` keeps.
pub countdown_value : (x : Countdown) → ValueHolds AllocError (StepsToValue CountdownStep) x (λ v. v ≡ x.value)
countdown_value =
    value_by_steps CountdownStep (λ x v. v ≡ x.value) (λ x y v h later. later ∙ ap (λ (z : Countdown). z.value) h.1)
    (λ x y v h. h.1)
