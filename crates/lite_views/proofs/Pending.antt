-- The stream `pending` is never ready.
use Rattle.std.specs.Prelude.{◌≡◌, List, [], ◌∷◌, Option}
use Rattle.lite_views.specs.Uses.{AllByRecursion, Pending, Answer, Unchanging, Waiting}
use Rattle.lite_source.specs.declared.pending.Pending.{Pending as PendingStream}
use Rattle.lite_views.specs.Answering.{NeverReady}

pub pending_never : {A : Type 0} (x : PendingStream A) → NeverReady {A = Option A} (Unchanging (λ _ a. a ≡ Pending)) x
unfolding NeverReady
pending_never x l y h = waits l h.0
  where
    waits : {A : Type 0} (l : List (Answer A)) → AllByRecursion (λ a. a ≡ Pending) l → Waiting l
    waits [] h = tt
    waits (a ∷ l) h = rw h.0 (waits l h.1)
