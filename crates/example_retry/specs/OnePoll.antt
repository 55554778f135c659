-- One poll of a retry's attempt.
use Rattle.std.specs.Prelude.{◌≡◌, ℕ, [], ◌∷◌, Option, None, Some, Result}
use Rattle.std.specs.Fn.{Mut}
use Rattle.futures_lite.specs.Answers.{Pending, Poll, Ready}
use Rattle.futures_lite.specs.Own.{Runs}
use Rattle.example_retry.specs.Retry.{IsAttempt}
use Rattle.example_retry.specs.declared.retry.Retry.{Retry}

-- The attempt is held after a `Pending`, and gone after its value.
abbrev pub attempt_after : {V O : Type 0} → Poll O → V → Option V
attempt_after Pending v = Some v
attempt_after (Ready o) v = None

-- One poll of the future `v`, which the retry holds, returned `a`.
abbrev pub PollsHeld : {V M O : Type 0} → Runs (Poll O) V → Retry V M → V → Poll O → Retry V M → Type 0
PollsHeld {V} run x v a y = (w : V) × run v (a ∷ []) w × (y ≡ record x { attempt = attempt_after a w })

module _ {V M A E : Type 0} (call : Mut M (ℕ × Unit {0}) V) (run : Runs (Poll (Result A E)) V) where
  -- One poll of an attempt returned `a`.
  pub record PollsAttempt (x : Retry V M) (a : Poll (Result A E)) (y : Retry V M) : Type 0 where
    pub future : V
    pub left : V
    pub make : M
    pub is_attempt : IsAttempt call x future make
    pub polled : run future (a ∷ []) left
    pub held : y ≡ record x { make = make; attempt = attempt_after a left }
