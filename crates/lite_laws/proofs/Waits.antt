-- What a run leaves whose last answer is Pending.
use Rattle.std.specs.Prelude.{List, [], ◌∷◌, ◌++◌}
use Rattle.lite_laws.specs.Uses.{OnPending, Poll}
use Rattle.futures.specs.declared.task.Poll.TheVariants.{Pending, Ready}
use Rattle.lite_laws.specs.Waits.{IfWaits}

pub waits_last : {A : Type 0} (l : List (Poll A)) (a : Poll A) (P : Type 0) → OnPending a P → IfWaits (l ++ a ∷ []) P
waits_last [] a P h = h
waits_last (b ∷ []) a P h = h
waits_last (b ∷ c ∷ l) a P h = waits_last (c ∷ l) a P h

pub waits_on : {A P : Type 0} (Q : Type 0) (l : List (Poll A)) → (P → Q) → IfWaits l P → IfWaits l Q
waits_on Q [] f h = tt
waits_on Q (Ready x ∷ []) f h = tt
waits_on Q (Pending ∷ []) f h = f h
waits_on Q (a ∷ b ∷ l) f h = waits_on Q (b ∷ l) f h
