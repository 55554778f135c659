-- Streams and futures whose polls never return `Pending`.
use Rattle.std.specs.Prelude.{⊤, ℕ, ◌+◌, List, [], ◌∷◌}
use Rattle.lite_base.specs.Uses.{Poll, Ready, Pending}
use Rattle.lite_base.specs.Runs.{Runs}

-- No result is `Pending`.
abbrev pub NoPending : {A : Type 0} → List (Poll A) → Type 0
NoPending [] = ⊤
NoPending (Pending ∷ l) = ⊥
NoPending (Ready x ∷ l) = NoPending l

-- How many results are `Pending`.
abbrev pub waits : {A : Type 0} → List (Poll A) → ℕ
waits [] = 0
waits (Pending ∷ l) = waits l + 1
waits (Ready x ∷ l) = waits l

-- Every run from a calm value meets `NoWait`, which says that it has no `Pending`, and leaves a calm value.
pub record CalmRuns {S A : Type 0} (NoWait : List A → Type 0) (run : Runs A S) (is_calm : S → Type 0) : Type 0 where
  pub no_pending : (x y : S) (l : List A) → is_calm x → run x l y → NoWait l
  pub calm_on : (x y : S) (l : List A) → is_calm x → run x l y → is_calm y

-- What a `CalmStream` or a `CalmFuture` promises: no run from a calm value has a `Pending`, and each leaves a calm
-- value. A type of this library is calm if its sources are calm and its closures make calm values. Of the futures `or`
-- and `race` one calm future is enough. `pending`, `fuse` of futures, `with_poll_limit` of a stream or a reader, and the
-- stream `bytes` return `Pending` by themselves, so they are not calm.
abbrev pub CalmLaws : {S A : Type 0} → Runs (Poll A) S → (S → Type 0) → Type 0
CalmLaws = CalmRuns NoPending
