-- Laws of a future that polls its inner future a limited number of times.
use Rattle.std.specs.Prelude.{Bool, true, false, ◌≡◌, ◌≤◌, ◌<◌, ◌-◌, ℕ, zero, suc, List, [], ◌∷◌, ◌++◌, length, Result, Ok, Err, refl}
use Rattle.futures.specs.Task.{Lasting}
use Rattle.lite_base.specs.Armed.{Arms, pends_last}
use Rattle.lite_future.specs.Uses.{arith, Pending, Poll, Ready, Waiting, strip, CalmLaws, NoPending, FutureLaws, WaitsOn, Runs}
use Rattle.lite_future.specs.PollLimited.{LimitsPolls, SpendsPolls}
use Rattle.lite_future.specs.declared.poll_limited.PollLimited.{PollLimited}
use Rattle.lite_future.specs.declared.poll_limited.Exhausted.{Exhausted}

module _ {A : Type 0} where
  nothing_spent : {n m : ℕ} {ins : List (Poll A)} {out : List (Poll (Result A Exhausted))} → SpendsPolls n ins out m
      → out ≡ [] → (ins ≡ []) × (m ≡ n)
  nothing_spent (SpendsPolls.nothing n) e = (refl, refl)
  nothing_spent (SpendsPolls.waits n m ins out h) e = cc e
  nothing_spent (SpendsPolls.last x) e = cc e
  nothing_spent (SpendsPolls.over x) e = cc e
  nothing_spent (SpendsPolls.value n v) e = cc e

  waiting_in : {n m : ℕ} {ins : List (Poll A)} {out : List (Poll (Result A Exhausted))} → SpendsPolls n ins out m
      → Waiting out → Waiting ins
  waiting_in (SpendsPolls.nothing n) w = tt
  waiting_in (SpendsPolls.waits n m ins out h) w = waiting_in h w
  waiting_in (SpendsPolls.last x) w = absurd w
  waiting_in (SpendsPolls.over x) w = absurd w
  waiting_in (SpendsPolls.value n v) w = absurd w

  spent_both : {n m k : ℕ} {ins more : List (Poll A)} {out rest : List (Poll (Result A Exhausted))} → SpendsPolls n ins out m
      → Waiting out → SpendsPolls m more rest k → SpendsPolls n (ins ++ more) (out ++ rest) k
  spent_both (SpendsPolls.nothing n) w later = later
  spent_both (SpendsPolls.waits n m ins out h) w later = SpendsPolls.waits n _ _ _ (spent_both h w later)
  spent_both (SpendsPolls.last x) w later = absurd w
  spent_both (SpendsPolls.over x) w later = absurd w
  spent_both (SpendsPolls.value n v) w later = absurd w

  spent_once : {n m : ℕ} {ins : List (Poll A)} {out : List (Poll (Result A Exhausted))} → SpendsPolls n ins out m
      → length (strip out) ≤ 1
  spent_once (SpendsPolls.nothing n) = omega arith
  spent_once (SpendsPolls.waits n m ins out h) = spent_once h
  spent_once (SpendsPolls.last x) = omega arith
  spent_once (SpendsPolls.over x) = omega arith
  spent_once (SpendsPolls.value n v) = omega arith

  spent_calm : {n m : ℕ} {ins : List (Poll A)} {out : List (Poll (Result A Exhausted))} → SpendsPolls n ins out m
      → NoPending ins → NoPending out
  spent_calm (SpendsPolls.nothing n) w = tt
  spent_calm (SpendsPolls.waits n m ins out h) w = absurd w
  spent_calm (SpendsPolls.last x) w = absurd w
  spent_calm (SpendsPolls.over x) w = tt
  spent_calm (SpendsPolls.value n v) w = tt

module _ {F A : Type 0} {run : Runs (Poll A) F} where
  spent_on : {can_poll : F → Type 0} → WaitsOn can_poll run → (f g : F) {n m : ℕ} {ins : List (Poll A)}
      {out : List (Poll (Result A Exhausted))} → Waiting out → (0 < n → can_poll f) → run f ins g
      → SpendsPolls n ins out m → 0 < m → can_poll g
  spent_on on f g w c came (SpendsPolls.nothing n) some = on f g [] tt (c some) came
  spent_on on f g w c came (SpendsPolls.waits n m ins out h) some =
      on f g (Pending ∷ ins) (waiting_in h w) (c (omega arith)) came
  spent_on on f g w c came (SpendsPolls.last x) some = absurd w
  spent_on on f g w c came (SpendsPolls.over x) some = absurd w
  spent_on on f g w c came (SpendsPolls.value n v) some = absurd w

  -- The inner future may be polled while a poll is left.
  limits_on : {can_poll : F → Type 0} → WaitsOn can_poll run
      → WaitsOn (λ (x : PollLimited F). 0 < x.left → can_poll x.inner) (LimitsPolls run)
  limits_on on x y l w c h = spent_on on x.inner y.inner w c h.1 h.2

  pub limits_calm : {is_calm : F → Type 0} → CalmLaws run is_calm → CalmLaws (LimitsPolls run) (λ x. is_calm x.inner)
  limits_calm c =
      record {
        no_pending = λ x y l k h. spent_calm h.2 (c.no_pending x.inner y.inner h.0 k h.1);
        calm_on = λ x y l k h. c.calm_on x.inner y.inner h.0 k h.1;
      }

module _ {F A : Type 0} {can_poll : F → Type 0} {run : Runs (Poll A) F} (laws : FutureLaws can_poll run) where
  limit_stays : (x y : PollLimited F) → LimitsPolls run x [] y → y ≡ x
  limit_stays x y h =
      let none = nothing_spent h.2 refl in
      let inner = laws.stays x.inner y.inner (rw none.0 at h.1) in
      rw (inner, none.1) refl

  pub limits_laws : FutureLaws (λ x. 0 < x.left → can_poll x.inner) (LimitsPolls run)
  limits_laws =
      record {
        rests = λ x. ([], laws.rests x.inner, SpendsPolls.nothing x.left);
        stays = limit_stays;
        follows = λ x y z l m w h k. (
          h.0 ++ k.0,
          laws.follows x.inner y.inner z.inner h.0 k.0 (waiting_in h.2 w) h.1 k.1,
          spent_both h.2 w k.2,
        );
        once = λ x y l h. spent_once h.2;
        waits_on = limits_on laws.waits_on;
      }

-- What one poll makes.
module _ {A : Type 0} where
  pub poll_over : (n : ℕ) (e : Exhausted) → n ≡ 0 → SpendsPolls {A = A} n [] (Ready (Err e) ∷ []) n
  poll_over n e none = rw none (SpendsPolls.over e)

  pub poll_value : (n : ℕ) (v : A) → 0 < n → SpendsPolls n (Ready v ∷ []) (Ready (Ok v) ∷ []) n
  poll_value (suc n) v some = SpendsPolls.value n v
  poll_value zero v some = absurd (omega (arith, some))

  pub poll_last : (n m : ℕ) (e : Exhausted) → 0 < n → m ≡ n - 1 → m ≡ 0
      → SpendsPolls {A = A} n (Pending ∷ []) (Ready (Err e) ∷ []) m
  poll_last n m e some less none =
      let one : n ≡ 1 = omega (arith, some, less, none) in
      rw (one, none) (SpendsPolls.last e)

  pub poll_waits : (n m : ℕ) → m ≡ n - 1 → 0 < m → SpendsPolls {A = A} n (Pending ∷ []) (Pending ∷ []) m
  poll_waits n (suc m) less more =
      let all : n ≡ suc (suc m) = omega (arith, less) in
      rw all (SpendsPolls.waits m (suc m) [] [] (SpendsPolls.nothing (suc m)))
  poll_waits n zero less more = absurd (omega (arith, more))

-- While a limit hands results on, they end in a `Pending` only if the inner future's results do.
spent_pends : {A : Type 0} {n m : ℕ} {ins : List (Poll A)} {out : List (Poll (Result A Exhausted))} (b : Bool)
    → SpendsPolls n ins out m → pends_last b out ≡ true → pends_last b ins ≡ true
spent_pends b (SpendsPolls.nothing n) e = e
spent_pends b (SpendsPolls.waits n m ins out h) e = spent_pends true h e
spent_pends b (SpendsPolls.last x) e = cc e
spent_pends b (SpendsPolls.over x) e = cc e
spent_pends b (SpendsPolls.value n v) e = cc e

-- Such a future is armed if the inner future is.
pub limits_arms : {F A : Type 0} {run : Runs (Poll A) F} {registers : F → Lasting → Type 0} → Arms run registers
    → Arms (LimitsPolls run) (λ x. registers x.inner)
limits_arms a =
    record { at = λ x y l e h. a.at x.inner y.inner h.0 (spent_pends false h.2 e) h.1 }
