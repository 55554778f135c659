-- Laws of streams and futures whose results do not depend on when they were pending, if no allocation failed.
use Rattle.std.specs.Prelude.{⊤}
use Rattle.lite_base.specs.Uses.{MutBor, Poll}
use Rattle.lite_base.specs.Alike.{Sameness}
use Rattle.lite_base.specs.Answers.{Answer}
use Rattle.lite_base.specs.FutureLaws.{FutureLaws}
use Rattle.lite_base.specs.Laws.FutureLaws.{future_runs_of}
use Rattle.lite_base.specs.Runs.{Lent, Hints, Runs}
use Rattle.lite_base.specs.Laws.Lent.{lent_future_runs, lent_runs}
use Rattle.lite_base.specs.StreamLaws.{StreamLaws}
use Rattle.lite_base.specs.Laws.StreamLaws.{runs_of}
use Rattle.lite_base.specs.Steady.{FutureSteadyLaws, FutureSteadyLawsBy, Steadiness, SteadinessBy, SteadyLaws, SteadyLawsBy, TakesNone}

lent_steadiness : {S A : Type 0} {same : A → A → Type 0} {ample : Runs (Poll A) S} {alike : S → S → Type 0}
    → SteadinessBy same ample alike → SteadinessBy same (Lent ample) (λ (x y : MutBor S). alike x.now y.now)
lent_steadiness s x y e l m x' y' h k = s x.now y.now e l m x'.now y'.now h.0 k.0

pub lent_takes_none : {S A : Type 0} {run ample : Runs A S} → TakesNone run ample → TakesNone (Lent run) (Lent ample)
lent_takes_none t x y l h = (t x.now y.now l h.0, h.1)

pub lent_steady : {S A : Type 0} {same : Sameness A} {run ample : Runs (Answer A) S} {needs_none : Type 0}
    {alike : S → S → Type 0} → SteadyLawsBy same run ample needs_none alike
    → SteadyLawsBy same (Lent run) (Lent ample) needs_none (λ (x y : MutBor S). alike x.now y.now)
lent_steady s =
    record {
      laws = lent_runs s.laws;
      steady = lent_steadiness s.steady;
      found = λ n. lent_takes_none (s.found n);
    }

pub lent_future_steady : {F A : Type 0} {same : Sameness A} {run ample : Runs (Poll A) F} {needs_none : Type 0}
    {alike : F → F → Type 0} → FutureSteadyLawsBy same run ample needs_none alike
    → FutureSteadyLawsBy same (Lent run) (Lent ample) needs_none (λ (x y : MutBor F). alike x.now y.now)
lent_future_steady s =
    record {
      laws = lent_future_runs s.laws;
      steady = lent_steadiness s.steady;
      found = λ n. lent_takes_none (s.found n);
    }

-- If no poll needs memory, every run is ample.
pub steady_always : {S A : Type 0} {run : Runs (Answer A) S} {can_poll : S → Type 0} {hints : Hints S} {alike : S → S → Type 0}
    → StreamLaws can_poll run hints → Steadiness run alike → SteadyLaws run run ⊤ alike
steady_always laws s = record { laws = runs_of laws; steady = s; found = λ n x y l h. h }

pub future_steady_always : {F A : Type 0} {can_poll : F → Type 0} {run : Runs (Poll A) F} {alike : F → F → Type 0}
    → FutureLaws can_poll run → Steadiness run alike → FutureSteadyLaws run run ⊤ alike
future_steady_always laws s = record { laws = future_runs_of laws; steady = s; found = λ n x y l h. h }
