-- Laws of a closure that is polled.
use Rattle.std.specs.Prelude.{List, ◌∷◌}
use Rattle.lite_base.specs.Uses.{FoldsTo, OnPending, Pending, Poll, Ready}
use Rattle.lite_base.specs.Answers.{Waiting}
use Rattle.lite_base.specs.Pollers.{AlwaysObeys, CallAnswers, NeverPends, Poller}
use Rattle.lite_base.specs.Laws.Answers.{waiting_waiting}
use Rattle.lite_base.specs.Laws.Calling.{folds_follow}
use Rattle.lite_base.specs.Laws.Calm.{no_pending_back}

module _ {F A : Type 0} (g : Poller F A) where
  -- A closure that obeys until its value obeys after any calls that returned no value.
  pub obeys_after : (f q : F) (l : List (Poll A)) → Waiting l → AlwaysObeys g Waiting f → FoldsTo (CallAnswers g) f l q
      → AlwaysObeys g Waiting q
  obeys_after f q l w h c = record {
    at = λ m p v d. h.at _ p (waiting_waiting l m w v) (folds_follow _ f q p l m c d);
  }

  -- A closure that never returns `Pending` never does after calls either.
  pub never_pends_on : (f q : F) (l : List (Poll A)) → NeverPends g f → FoldsTo (CallAnswers g) f l q → NeverPends g q
  never_pends_on f q l k h = record {
    at = λ m p d. no_pending_back l m (k.at _ p (folds_follow _ f q p l m h d));
  }

  -- A closure obeys after a call too, if its result may come before those that meet `On`.
  pub obeys_on : (On : List (Poll A) → Type 0) (f q : F) (a : Poll A) → ((l : List (Poll A)) → On l → On (a ∷ l))
      → AlwaysObeys g On f → CallAnswers g f a q → AlwaysObeys g On q
  obeys_on On f q a more h c = record { at = λ l p w d. h.at _ p (more l w) (q, c, d) }

  -- A closure that obeys until its value obeys after a call that returned no value.
  pub obeys_until : (f q : F) (a : Poll A) → AlwaysObeys g Waiting f → CallAnswers g f a q
      → OnPending a (AlwaysObeys g Waiting q)
  obeys_until f q Pending h c = obeys_on Waiting f q Pending (λ l w. w) h c
  obeys_until f q (Ready x) h c = tt
