-- What a poll that returned `Pending` has registered in its context, such as that a source will wake the task.
use Rattle.lite_base.specs.Uses.{OnPending, Holds, Lasting, Poll, Context}
use Rattle.std.specs.Prelude.{◌≡◌, ◌⊎◌, ℕ}

-- If the result is `Pending`, the context `cx` holds each of the facts.
abbrev pub Registered : {A : Type 0} → Poll A → (Lasting → Type 0) → Context → Type 0
Registered answer facts cx = OnPending answer ((fact : Lasting) → facts fact → Holds cx fact)

-- What the context holds after a poll that woke it and returned `Pending`.

-- The facts that a woken context holds: the task runs again (`armed`), and the task hears from each source (`hears`).
abbrev pub HoldsWoken : Lasting → Type 0
HoldsWoken fact = (fact ≡ Lasting.armed) ⊎ ((source : ℕ) × (fact ≡ Lasting.hears source))
