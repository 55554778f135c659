-- Laws of `race` of futures.
use Rattle.std.specs.Prelude.{◌⊎◌, ◌≤◌, List, [], ◌∷◌, ◌++◌, length, refl}
use Rattle.futures.specs.Task.{Lasting}
use Rattle.lite_base.specs.Armed.{Arms, EndsPending}
use Rattle.lite_future.specs.Uses.{subst, sym, arith, map-append, Stream, Poll, Waiting, strip, CalmLaws, NoPending, is_first, FutureLaws}
use Rattle.lite_future.specs.Uses.{FutureRunLaws, WaitsOn, future_laws_of, future_runs_of, up_to_once, folds_follow, calm_both, Runs}
use Rattle.std.proofs.Common.{append-nil}
use Rattle.lite_future.specs.Race.{FutureRacesOn}
use Rattle.lite_future.specs.Laws.Picks.{picks_arms, picks_calm, picks_follow, picks_on}
use Rattle.lite_future.specs.declared.race.Race.{Race}

module _ {F G R A : Type 0} {run_first : Runs (Poll A) F} {run_second : Runs (Poll A) G} (stream : R → Stream) where
  module _ (laws_first : FutureRunLaws run_first) (laws_second : FutureRunLaws run_second) where
    races_once : (x y : Race F G R) (l : List (Poll A)) → FutureRacesOn run_first run_second stream x l y
        → length (strip l) ≤ 1
    races_once x y [] h = omega arith
    races_once x y (c ∷ l) h = up_to_once (c ∷ l) h.picks.ends

    races_follow : (x y z : Race F G R) (l m : List (Poll A)) → Waiting l
        → FutureRacesOn run_first run_second stream x l y → FutureRacesOn run_first run_second stream y m z
        → FutureRacesOn run_first run_second stream x (l ++ m) z
    races_follow x y z [] m w h k = subst (λ t. FutureRacesOn run_first run_second stream t m z) h k
    races_follow x y z (c ∷ l) [] w h k =
        rw (append-nil (c ∷ l)) (subst (λ t. FutureRacesOn run_first run_second stream x (c ∷ l) t) (sym k) h)
    races_follow x y z (c ∷ l) (d ∷ m) w h k =
        record {
          words = h.words ++ k.words;
          drawn = folds_follow _ (stream x.rng) (stream y.rng)
              (stream z.rng) h.words k.words h.drawn k.drawn;
          picks = rw (map-append is_first h.words k.words)
              (picks_follow laws_first laws_second w h.picks k.picks);
        }

    races_runs : FutureRunLaws (FutureRacesOn run_first run_second stream)
    races_runs = record { rests = λ x. refl; stays = λ x y h. h; follows = races_follow; once = races_once }

  races_on : {can_first : F → Type 0} {can_second : G → Type 0} → WaitsOn can_first run_first
      → WaitsOn can_second run_second
      → WaitsOn (λ (x : Race F G R). can_first x.future1 × can_second x.future2)
      (FutureRacesOn run_first run_second stream)
  races_on on also x y [] w c h = rw h c
  races_on on also x y (a ∷ l) w c h = picks_on on also w c h.picks

  pub races_laws : {can_first : F → Type 0} {can_second : G → Type 0} → FutureLaws can_first run_first
      → FutureLaws can_second run_second
      → FutureLaws (λ x. can_first x.future1 × can_second x.future2) (FutureRacesOn run_first run_second stream)
  races_laws one two =
      future_laws_of (races_runs (future_runs_of one) (future_runs_of two)) (races_on one.waits_on two.waits_on)

  module _ {calm_first : F → Type 0} {calm_second : G → Type 0} (c : CalmLaws run_first calm_first)
      (d : CalmLaws run_second calm_second) where
    calm_run : (x y : Race F G R) (l : List (Poll A)) → calm_first x.future1 ⊎ calm_second x.future2
        → FutureRacesOn run_first run_second stream x l y → NoPending l × (calm_first y.future1 ⊎ calm_second y.future2)
    calm_run x y [] k h = rw h (tt, k)
    calm_run x y (a ∷ l) k h = picks_calm c d k h.picks

    -- `race` is never pending if one of the two futures never is.
    pub races_calm : CalmLaws (FutureRacesOn run_first run_second stream)
        (λ x. calm_first x.future1 ⊎ calm_second x.future2)
    races_calm = calm_both calm_run

  module _ {registers : F → Lasting → Type 0} {registers' : G → Lasting → Type 0} (a : Arms run_first registers)
      (b : Arms run_second registers') where
    arms_run : (x y : Race F G R) (l : List (Poll A)) → EndsPending l
        → FutureRacesOn run_first run_second stream x l y
        → registers y.future1 Lasting.armed ⊎ registers' y.future2 Lasting.armed
    arms_run x y [] e h = absurd (cc e)
    arms_run x y (c ∷ l) e h = picks_arms a b e h.picks

    -- A `race` is armed if both futures are.
    pub races_arms : Arms (FutureRacesOn run_first run_second stream)
        (λ x fact. registers x.future1 fact ⊎ registers' x.future2 fact)
    races_arms = record { at = arms_run }
