-- A future of your own that is specified by a step: what one poll may return and leave. Its laws are `future_by_steps`,
-- or `future_by_keeping_steps` if it may not always be polled.
use Rattle.std.specs.Prelude.{⊤, [], ◌∷◌}
use Rattle.lite_theorems.specs.Uses.{FoldsTo, refl, subst, sym, Pending, Poll, Ready, FutureLaws, Runs}
use Rattle.lite_base.specs.Answers.{UpToValue}
use Rattle.lite_base.specs.FutureLaws.{FutureRunLaws, WaitsOn}
use Rattle.lite_base.specs.Laws.Answers.{up_to_once, waiting_up_to}
use Rattle.lite_base.specs.Laws.Calling.{folds_follow}
use Rattle.lite_base.specs.Laws.FutureLaws.{future_laws_of}

-- `step` says what one poll may return, and which value it leaves.
module _ {F A : Type 0} (step : F → Poll A → F → Type 0) where
  -- Each poll is a step, and none comes after a value.
  abbrev pub StepsToValue : Runs (Poll A) F
  StepsToValue x l y = UpToValue l × FoldsTo step x l y

  steps_runs : FutureRunLaws StepsToValue
  steps_runs =
      record {
        rests = λ x. (tt, refl);
        stays = λ x y h. sym h.1;
        follows = λ x y z l m w h k. (waiting_up_to l m w k.0, folds_follow step x y z l m h.1 k.1);
        once = λ x y l h. up_to_once l h.0;
      }

  steps_on : {can_poll : F → Type 0} → ((x y : F) → can_poll x → step x Pending y → can_poll y)
      → WaitsOn can_poll StepsToValue
  steps_on {can_poll} keeps x y [] w c h = subst can_poll h.1 c
  steps_on keeps x y (Pending ∷ l) w c h =
      steps_on keeps h.1.0 y l w (keeps x h.1.0 c h.1.1) (h.0, h.1.2)
  steps_on keeps x y (Ready r ∷ l) w c h = absurd w

  -- The laws of a future that may be polled if `can_poll` holds. `keeps` says that a step that returns `Pending` keeps
  -- that.
  pub future_by_keeping_steps : {can_poll : F → Type 0} → ((x y : F) → can_poll x → step x Pending y → can_poll y)
      → FutureLaws can_poll StepsToValue
  future_by_keeping_steps keeps = future_laws_of steps_runs (steps_on keeps)

  -- The laws of a future that may always be polled.
  pub future_by_steps : FutureLaws (λ _. ⊤) StepsToValue
  future_by_steps = future_by_keeping_steps (λ x y c h. tt)
