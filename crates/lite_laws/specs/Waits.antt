-- What a context holds after a run whose last result is `Pending`.
use Rattle.std.specs.Prelude.{⊤, List, [], ◌∷◌}
use Rattle.lite_laws.specs.Uses.{OnPending, Poll}
use Rattle.futures.specs.Task.{Holds, Lasting}
use Rattle.futures.specs.declared.task.context.Context.{Context}

-- `P` holds if the last result of the list is `Pending`.
abbrev pub IfWaits : {A : Type 0} → List (Poll A) → Type 0 → Type 0
IfWaits [] P = ⊤
IfWaits (a ∷ []) P = OnPending a P
IfWaits (a ∷ b ∷ l) P = IfWaits (b ∷ l) P

-- The context holds each of these facts, such as those that a value registers in it when its poll returns `Pending`.
abbrev pub HoldsEach : (Lasting → Type 0) → Context → Type 0
HoldsEach facts cx = (fact : Lasting) → facts fact → Holds cx fact
