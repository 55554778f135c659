-- Laws of a stream or a future behind a `&mut` reference.
use Rattle.std.specs.Prelude.{◌≡◌, [], refl}
use Rattle.lite_base.specs.Uses.{◌∙◌, ap, MutBor, Poll}
use Rattle.lite_base.specs.Answers.{Answer}
use Rattle.lite_base.specs.FutureLaws.{FutureLaws, FutureRunLaws}
use Rattle.lite_base.specs.Laws.FutureLaws.{future_laws_of, future_runs_of}
use Rattle.lite_base.specs.Ranks.{Counting, Ranks, ranks_of}
use Rattle.lite_base.specs.StreamLaws.{RunLaws, StreamLaws}
use Rattle.lite_base.specs.Laws.StreamLaws.{laws_of, runs_of}
use Rattle.lite_base.specs.Runs.{Hints, Runs, Lent}

-- Runs of what two references point to follow one another.
lent_stays : {S A : Type 0} (run : Runs A S) → ((x y : S) → run x [] y → y ≡ x) → (x y : MutBor S) → Lent run x [] y
    → y ≡ x
lent_stays {S = S} run stays x y h = h.1 ∙ ap (λ (v : S). record x { now = v }) (stays x.now y.now h.0)

pub lent_still : {S : Type 0} (x y z : MutBor S) → y ≡ record x { now = y.now } → z ≡ record y { now = z.now }
    → z ≡ record x { now = z.now }
lent_still {S} x y z e d = d ∙ ap (λ (r : MutBor S). record r { now = z.now }) e

pub lent_runs : {S A : Type 0} {run : Runs A S} → RunLaws run → RunLaws (Lent run)
lent_runs {run = run} laws =
    record {
      rests = λ x. (laws.rests x.now, refl);
      stays = lent_stays run laws.stays;
      follows = λ x y z l m h k. (laws.follows x.now y.now z.now l m h.0 k.0, lent_still x y z h.1 k.1);
    }

module _ {S A : Type 0} {run : Runs (Answer A) S} where
  pub lent_laws : {can_poll : S → Type 0} {hints : Hints S} → StreamLaws can_poll run hints
      → StreamLaws (λ s. can_poll s.now) (Lent run) (λ s. hints s.now)
  lent_laws laws =
      laws_of (lent_runs (runs_of laws)) (λ x y hint l e h. laws.bounded x.now y.now hint l e h.0)
      (λ x y l c h. laws.polls_on x.now y.now l c h.0)

  pub lent_counting : {r : Ranks S} → Counting run r → Counting (Lent run) (ranks_of (λ (s : MutBor S). s.now) r)
  lent_counting c =
      record {
        sized = λ s. c.sized s.now;
        counts_on = λ x y l k h. c.counts_on x.now y.now l k h.0;
        firm_on = λ x y l k h. c.firm_on x.now y.now l k h.0;
        falls = λ x y a more k h. c.falls x.now y.now a more k h.0;
        lowers = λ x y l k h. c.lowers x.now y.now l k h.0;
      }

pub lent_future_runs : {F A : Type 0} {run : Runs (Poll A) F} → FutureRunLaws run → FutureRunLaws (Lent run)
lent_future_runs {run = run} laws =
    record {
      rests = λ x. (laws.rests x.now, refl);
      stays = lent_stays run laws.stays;
      follows = λ x y z l m w h k. (laws.follows x.now y.now z.now l m w h.0 k.0, lent_still x y z h.1 k.1);
      once = λ x y l h. laws.once x.now y.now l h.0;
    }

pub lent_future_laws : {F A : Type 0} {can_poll : F → Type 0} {run : Runs (Poll A) F} → FutureLaws can_poll run
    → FutureLaws (λ s. can_poll s.now) (Lent run)
lent_future_laws laws =
    future_laws_of (lent_future_runs (future_runs_of laws)) (λ x y l w c h. laws.waits_on x.now y.now l w c h.0)
