-- The laws that the runs of every future meet.
use Rattle.std.specs.Prelude.{◌≡◌, ◌≤◌, List, [], ◌∷◌, ◌++◌, length}
use Rattle.lite_base.specs.Uses.{Pending, Poll, Ready}
use Rattle.lite_base.specs.Answers.{Waiting, strip}
use Rattle.lite_base.specs.Runs.{Runs}

-- The laws of runs, which a future's ample runs meet too. Without a poll the future stays as it is, a run may follow a
-- run that was pending throughout, and no run has two values.
pub record FutureRunLaws {F A : Type 0} (run : Runs (Poll A) F) : Type 0 where
  -- Without a poll the future stays as it is.
  pub rests : (x : F) → run x [] x
  pub stays : (x y : F) → run x [] y → y ≡ x
  -- A run follows a run that was pending throughout.
  pub follows : (x y z : F) (l m : List (Poll A)) → Waiting l → run x l y → run y m z → run x (l ++ m) z
  -- No run has two values.
  pub once : (x y : F) (l : List (Poll A)) → run x l y → length (strip l) ≤ 1

-- A future that may be polled may be polled again after a run that was pending throughout.
abbrev pub WaitsOn : {F A : Type 0} → (F → Type 0) → Runs (Poll A) F → Type 0
WaitsOn {F} {A} can_poll run = (x y : F) (l : List (Poll A)) → Waiting l → can_poll x → run x l y → can_poll y

-- The laws of a future's runs, which every future states in its ghost member `laws`. They are those of `FutureRunLaws`,
-- and a future that may be polled may be polled again after a run that was pending throughout.
pub record FutureLaws {F A : Type 0} (can_poll : F → Type 0) (run : Runs (Poll A) F) : Type 0 where
  -- Without a poll the future stays as it is.
  pub rests : (x : F) → run x [] x
  pub stays : (x y : F) → run x [] y → y ≡ x
  -- A run follows a run that was pending throughout.
  pub follows : (x y z : F) (l m : List (Poll A)) → Waiting l → run x l y → run y m z → run x (l ++ m) z
  -- No run has two values.
  pub once : (x y : F) (l : List (Poll A)) → run x l y → length (strip l) ≤ 1
  -- A future that may be polled may be polled again after a run that was pending throughout.
  pub waits_on : (x y : F) (l : List (Poll A)) → Waiting l → can_poll x → run x l y → can_poll y

-- Futures each poll of which is one call, such as `read` or `seek`.

-- Each poll is one `call`. The future is pending when the call is, and its value is the call's. No poll follows a
-- value.
abbrev pub PolledByCalls : {F A : Type 0} → (F → Poll A → F → Type 0) → Runs (Poll A) F
PolledByCalls call x [] y = y ≡ x
PolledByCalls {F} call x (Pending ∷ out) y = (m : F) × call x Pending m × PolledByCalls call m out y
PolledByCalls call x (Ready r ∷ out) y = call x (Ready r) y × (out ≡ [])
