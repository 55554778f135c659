-- Laws of `yield_now`.
use Rattle.std.specs.Prelude.{⊤, ◌≡◌, ◌≤◌, List, [], ◌++◌, length, Bool, true, false, refl}
use Rattle.lite_base.specs.Armed.{Arms}
use Rattle.lite_base.specs.Registered.{HoldsWoken}
use Rattle.lite_future.specs.Uses.{inl, inr, ap, append_assoc, subst, sym, arith, Poll, Waiting, strip, CalmLaws, NoPending, FutureLaws, by_value}
use Rattle.lite_future.specs.Uses.{calm_both, FutureSteadyLaws, future_steady_always, Runs}
use Rattle.lite_future.specs.YieldNow.{YieldsOnce, to_come}
use Rattle.lite_base.specs.Laws.Answers.{strip_front}
use Rattle.lite_base.specs.Laws.Calm.{no_pending_back, no_pending_front}
use Rattle.lite_future.specs.declared.yield_now.YieldNow.{YieldNow}

yields_stay : (x y : Bool) → YieldsOnce x [] y → y ≡ x
yields_stay false true (inl e) = absurd (cc e)
yields_stay true false (inl e) = absurd (cc e)
yields_stay false true (inr h) = absurd (let e = h.0 in cc)
yields_stay true false (inr h) = absurd (let e = h.0 in cc)
yields_stay x y h = refl

-- A value is always to come.
comes : (x : Bool) → Waiting (to_come x) → ⊥
comes false w = w
comes true w = w

come_once : (x : Bool) → length (strip (to_come x)) ≤ 1
come_once false = omega arith
come_once true = omega arith

yields_follow : (x y z : Bool) (l m : List (Poll (Unit {0}))) → Waiting l → YieldsOnce x l y → YieldsOnce y m z
    → YieldsOnce x (l ++ m) z
yields_follow x y z l m w (inr h) k = absurd (comes x (subst Waiting h.0 w))
yields_follow x y z l m w (inl e) (inl d) = inl (rw (append_assoc, d) e)
yields_follow x y z l m w (inl e) (inr k) = inr (rw k.0 e, k.1)

yields_once : (x y : Bool) (l : List (Poll (Unit {0}))) → YieldsOnce x l y → length (strip l) ≤ 1
yields_once x y l (inl e) =
    let few = strip_front l (to_come y) in let all = rw e at few in let once = come_once x in omega (arith, all, once)
yields_once x y l (inr h) = rw h.0 (come_once x)

-- After its `Pending`, no run has another one.
yields_no_pending : (x y : Bool) (l : List (Poll (Unit {0}))) → x ≡ true → YieldsOnce x l y → NoPending l × (y ≡ true)
yields_no_pending false y l e h = absurd (cc e)
yields_no_pending true false l e (inl d) = absurd (no_pending_back l (to_come false) (subst NoPending (sym d) tt))
yields_no_pending true true l e (inl d) = (no_pending_front l (to_come true) (subst NoPending (sym d) tt), refl)
yields_no_pending true y l e (inr d) = (subst NoPending (sym d.0) tt, d.1)

-- The runs of `yield_now`, by whether it has returned its `Pending`.
abbrev Yields : Runs (Poll (Unit {0})) YieldNow
Yields x l y = YieldsOnce x.yielded l y.yielded

pub yields_laws : FutureLaws (λ _. ⊤) Yields
yields_laws =
    record {
      rests = λ x. inl refl;
      stays = λ x y h. ap (λ v. record x { yielded = v }) (yields_stay x.yielded y.yielded h);
      follows = λ x y z. yields_follow x.yielded y.yielded z.yielded;
      once = λ x y. yields_once x.yielded y.yielded;
      waits_on = λ x y l w c h. tt;
    }

pub yields_steady : FutureSteadyLaws Yields Yields ⊤ (λ x y. ⊤)
yields_steady =
    future_steady_always yields_laws
    (λ x y e l m x' y' h k. by_value _ _ (yields_once x.yielded x'.yielded l h)
    (yields_once y.yielded y'.yielded m k) (λ v w f g. refl))

pub yields_calm : CalmLaws Yields (λ x. x.yielded ≡ true)
yields_calm = calm_both (λ x y. yields_no_pending x.yielded y.yielded)

-- Its `Pending` has woken the task.
pub yields_arms : Arms Yields (λ x. HoldsWoken)
yields_arms = record { at = λ x y l e h. inl refl }
