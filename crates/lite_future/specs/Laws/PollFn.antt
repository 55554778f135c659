-- Laws of `poll_fn`: a future that calls a closure at each poll.
use Rattle.std.specs.Prelude.{⊤, List, refl}
use Rattle.lite_future.specs.Uses.{ap, sym, Poll, Alike, Waiting, CalmLaws, AlwaysObeys, NeverPends, Polled, FutureLaws, up_to_once, waiting_up_to}
use Rattle.lite_future.specs.Uses.{folds_follow, calm_both, future_steady_always, FutureSteadyLaws}
use Rattle.lite_base.specs.Pollers.{Poller}
use Rattle.lite_base.specs.Laws.Pollers.{never_pends_on, obeys_after}
use Rattle.lite_future.specs.declared.poll_fn.PollFn.{PollFn}

module _ {F A : Type 0} (g : Poller F A) where
  pub polled_laws : FutureLaws (λ x. AlwaysObeys g Waiting x.f) (λ (x : PollFn F) (l : List (Poll A)) (y : PollFn F). Polled g x.f l y.f)
  polled_laws =
      record {
        rests = λ x. (tt, refl);
        stays = λ x y h. ap (λ v. record x { f = v }) (sym h.1);
        follows = λ x y z l m w h k. (waiting_up_to l m w k.0, folds_follow _ x.f y.f z.f l m h.1 k.1);
        once = λ x y l h. up_to_once l h.0;
        waits_on = λ x y l w c h. obeys_after g x.f y.f l w c h.1;
      }

  -- A closure is its own source: its results say which closures are alike.
  pub polled_steady : FutureSteadyLaws (λ (x : PollFn F) (l : List (Poll A)) (y : PollFn F). Polled g x.f l y.f)
      (λ x l y. Polled g x.f l y.f) ⊤ (Alike (λ x l y. Polled g x.f l y.f))
  polled_steady = future_steady_always polled_laws (λ x y e. e)

  pub polled_calm : CalmLaws (λ (x : PollFn F) (l : List (Poll A)) (y : PollFn F). Polled g x.f l y.f)
      (λ x. NeverPends g x.f)
  polled_calm = calm_both (λ x y l k h. (k.at l y.f h.1, never_pends_on g x.f y.f l k h.1))
