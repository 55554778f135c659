-- Laws of a future's runs, with and without what may be polled, and of futures each poll of which is one call.
use Rattle.std.specs.Prelude.{◌≡◌, ◌≤◌, List, [], ◌∷◌, ◌++◌, length, refl}
use Rattle.lite_base.specs.Uses.{OnPending, Pending, Poll, Ready, arith, ◌∙◌}
use Rattle.lite_base.specs.Answers.{Waiting, strip}
use Rattle.lite_base.specs.Calm.{CalmLaws, CalmRuns, NoPending}
use Rattle.lite_base.specs.FutureLaws.{FutureLaws, FutureRunLaws, PolledByCalls, WaitsOn}
use Rattle.lite_base.specs.Runs.{Runs}

module _ {F A : Type 0} {run : Runs (Poll A) F} {can_poll : F → Type 0} where
  pub future_runs_of : FutureLaws can_poll run → FutureRunLaws run
  future_runs_of laws =
      record { rests = laws.rests; stays = laws.stays; follows = laws.follows; once = laws.once }

  pub future_laws_of : FutureRunLaws run → WaitsOn can_poll run → FutureLaws can_poll run
  future_laws_of runs on =
      record { rests = runs.rests; stays = runs.stays; follows = runs.follows; once = runs.once; waits_on = on }

-- What holds anyway holds after a `Pending`.
pub goes_again : {A P : Type 0} (r : Poll A) → P → OnPending r P
goes_again Pending p = p
goes_again (Ready a) p = tt

-- If two runs in a row have no poll result, the value is unchanged.
pub idle_join : {X A : Type 0} (x y z : X) (l m : List A) → (l ≡ [] → y ≡ x) → (m ≡ [] → z ≡ y) → l ++ m ≡ [] → z ≡ x
idle_join x y z [] m h k e = k e ∙ h refl
idle_join x y z (a ∷ l) m h k e = cc

module _ {F A : Type 0} (call : F → Poll A → F → Type 0) where
  polled_follows : (x y z : F) (l m : List (Poll A)) → Waiting l → PolledByCalls call x l y → PolledByCalls call y m z
      → PolledByCalls call x (l ++ m) z
  polled_follows x y z [] m w h k = rw (← h) k
  polled_follows x y z (Pending ∷ l) m w h k = (h.0, h.1, polled_follows h.0 y z l m w h.2 k)
  polled_follows x y z (Ready r ∷ l) m w h k = absurd w

  polled_once : (x y : F) (l : List (Poll A)) → PolledByCalls call x l y → length (strip l) ≤ 1
  polled_once x y [] h = omega arith
  polled_once x y (Pending ∷ l) h = polled_once h.0 y l h.2
  polled_once x y (Ready r ∷ l) h = rw h.1 (omega arith)

  polled_on : {can_poll : F → Type 0} → ((x y : F) → can_poll x → call x Pending y → can_poll y)
      → WaitsOn can_poll (PolledByCalls call)
  polled_on on x y [] w c h = rw h c
  polled_on on x y (Pending ∷ l) w c h = polled_on on h.0 y l w (on x h.0 c h.1) h.2
  polled_on on x y (Ready r ∷ l) w c h = absurd w

  pub polled_runs : FutureRunLaws (PolledByCalls call)
  polled_runs = record { rests = λ x. refl; stays = λ x y h. h; follows = polled_follows; once = polled_once }

  -- `on` says that a future that may be polled may be polled again after a pending call.
  pub polled_laws : {can_poll : F → Type 0} (on : (x y : F) → can_poll x → call x Pending y → can_poll y)
      → FutureLaws can_poll (PolledByCalls call)
  polled_laws on = future_laws_of polled_runs (polled_on on)

  -- One call is a run of one poll.
  pub polled_one : {x y : F} {c : Poll A} → call x c y → PolledByCalls call x (c ∷ []) y
  polled_one {c = Pending} h = (_, h, refl)
  polled_one {c = Ready r} h = (h, refl)

  -- If no call on a calm value is pending, and each leaves a calm value, then the future is calm.
  module _ {is_calm : F → Type 0} (never : (x y : F) → is_calm x → call x Pending y → ⊥)
      (calm_on : (x y : F) (r : A) → is_calm x → call x (Ready r) y → is_calm y) where
    module _ (x y : F) where
      no_pending : (l : List (Poll A)) → is_calm x → PolledByCalls call x l y → NoPending l
      no_pending [] k h = tt
      no_pending (Pending ∷ l) k h = absurd (never x h.0 k h.1)
      no_pending (Ready r ∷ l) k h = rw h.1 tt

      still_calm : (l : List (Poll A)) → is_calm x → PolledByCalls call x l y → is_calm y
      still_calm [] k h = rw h k
      still_calm (Pending ∷ l) k h = absurd (never x h.0 k h.1)
      still_calm (Ready r ∷ l) k h = calm_on x y r k h.0

    pub polled_calm : CalmLaws (PolledByCalls call) is_calm
    polled_calm = record { no_pending = no_pending; calm_on = still_calm }

  -- A future is calm if its calls run a calm part of it, and a pending call would leave a mark of waiting there.
  pub calls_calm : {M S : Type 0} {NoWait : List M → Type 0} {run : Runs M S} {is_calm : S → Type 0} (part : F → S)
      (came : (x y : F) (r : Poll A) → call x r y → (l : List M) × run (part x) l (part y))
      → ((x y : F) (h : call x Pending y) → NoWait (came x y Pending h).0 → ⊥) → CalmRuns NoWait run is_calm
      → CalmLaws (PolledByCalls call) (λ x. is_calm (part x))
  calls_calm part came waits c =
      polled_calm (λ x y k h. let w = came x y Pending h in waits x y h (c.no_pending _ _ w.0 k w.1))
      (λ x y r k h. let w = came x y _ h in c.calm_on _ _ w.0 k w.1)
