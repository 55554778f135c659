-- Laws of `or` of futures.
use Rattle.std.specs.Prelude.{◌⊎◌}
use Rattle.futures.specs.Task.{Lasting}
use Rattle.lite_base.specs.Armed.{Arms}
use Rattle.lite_future.specs.Uses.{map-append, Poll, CalmLaws, FutureLaws, future_runs_of, up_to_once, calm_both, Runs}
use Rattle.lite_future.specs.Or.{FutureOrs}
use Rattle.lite_future.specs.Laws.Picks.{picks_arms, picks_calm, picks_follow, picks_on, picks_rest, picks_stay}

module _ {F G A : Type 0} {run_first : Runs (Poll A) F} {run_second : Runs (Poll A) G} where
  pub ors_laws : {can_first : F → Type 0} {can_second : G → Type 0} → FutureLaws can_first run_first
      → FutureLaws can_second run_second
      → FutureLaws (λ x. can_first x.future1 × can_second x.future2) (FutureOrs run_first run_second)
  ors_laws one two =
      let laws_first = future_runs_of one in
      let laws_second = future_runs_of two in
      record {
        rests = λ x. picks_rest laws_first laws_second x.future1 x.future2;
        stays = λ x y h. let e = picks_stay laws_first laws_second h in
            λ i. record { future1 = e.0 i; future2 = e.1 i };
        follows = λ x y z l m w h k.
            rw (map-append _ l m) (picks_follow laws_first laws_second w h k);
        once = λ x y l h. up_to_once l h.ends;
        waits_on = λ x y l w c h. picks_on one.waits_on two.waits_on w c h;
      }

  -- `or` is never pending if one of the two futures never is.
  pub ors_calm : {calm_first : F → Type 0} {calm_second : G → Type 0} → CalmLaws run_first calm_first
      → CalmLaws run_second calm_second
      → CalmLaws (FutureOrs run_first run_second) (λ x. calm_first x.future1 ⊎ calm_second x.future2)
  ors_calm c d = calm_both (λ x y l. picks_calm c d)

  -- An `or` is armed if both futures are.
  pub ors_arms : {registers : F → Lasting → Type 0} {registers' : G → Lasting → Type 0} → Arms run_first registers
      → Arms run_second registers'
      → Arms (FutureOrs run_first run_second) (λ x fact. registers x.future1 fact ⊎ registers' x.future2 fact)
  ors_arms a b = record { at = λ x y l e h. picks_arms a b e h }
