-- The value of a retry, by its attempts.
use Rattle.std.specs.Prelude.{◌≡◌, ◌≤◌, ◌+◌, ◌∷◌, ◌++◌, List, [], map, None, Result, Ok, Err, IfErr, length, refl}
use Rattle.std.specs.Fn.{Mut}
use Rattle.std.specs.List.{FoldsTo, flat_map, range_with_len}
use Rattle.std.specs.declared.alloc.AllocError.{AllocError}
use Rattle.std.proofs.Common.{◌∙◌, add-zero, ap, append_assoc, arith, inl, inr, subst, suc, sym, zero, zero-add, ℕ}
use Rattle.futures_lite.specs.Answers.{Gives, Pending, Poll, Ready, Waiting}
use Rattle.futures_lite.specs.Futures.{Finishes}
use Rattle.futures_lite.specs.Laws.Answers.{waiting_not_gives}
use Rattle.futures_lite.specs.Lists.{HasValue, HasValueAs, Seen, ValueHolds, Waited}
use Rattle.futures_lite.specs.Own.{Runs}
use Rattle.example_retry.specs.Outcome.{AttemptsFail, MakesValues, Outcome, AttemptReturns, first_ok}
use Rattle.example_retry.specs.Retry.{LastAttempt, AttemptFails, LeavesAttempt, Retries}
use Rattle.example_retry.specs.declared.retry.Retry.{Retry}

module _ {A : Type 0} where
  gives_back : (l m : List (Poll A)) (r : A) → Waiting l → Gives (l ++ m) r → Gives m r
  gives_back [] m r w g = g
  gives_back (Pending ∷ l) m r w g = gives_back l m r w g
  gives_back (Ready x ∷ l) m r w g = absurd w

  gives_same : (l : List (Poll A)) (r s : A) → Gives l r → Gives l s → r ≡ s
  gives_same [] r s g h = absurd g
  gives_same (Pending ∷ l) r s g h = gives_same l r s g h
  gives_same (Ready x ∷ l) r s g h = sym g.0 ∙ h.0

module _ {V M A E : Type 0} (call : Mut M (ℕ × Unit {0}) V) (run : Runs (Poll (Result A E)) V) where
  -- From `x`, which holds no attempt, attempts failed one after the other, and left `y`.
  record Failed (x y : Retry V M) : Type 0 where
    errors : List E
    fails : AttemptsFail call run x.make x.number errors y.make
    none : y.attempt ≡ None
    number : y.number ≡ x.number + length errors
    last : y.last ≡ x.last
    within : y.number ≤ y.last

  failed_more : (x y z : Retry V M) (pendings : List (Poll (Result A E))) → x.attempt ≡ None
      → AttemptFails call run x pendings y → Failed y z → Failed x z
  failed_more x y z pendings none h more =
      let next = subst (λ t. Failed t z) h.gone more in
      let tries : AttemptReturns call run x.make x.number (Err h.error) h.make =
      (h.future, pendings ++ Ready (Err h.error) ∷ [], rw none at h.is_attempt, h.failed) in
      record {
        errors = h.error ∷ next.errors;
        fails = (h.make, tries, next.fails);
        none = next.none;
        number = rw next.number (omega arith);
        last = next.last;
        within = next.within;
      }

  failed_all : (x y : Retry V M) (failed : List (List (Poll (Result A E)))) → x.attempt ≡ None → x.number ≤ x.last
      → FoldsTo (AttemptFails call run) x failed y → Failed x y
  failed_all x y [] none within h =
      subst (λ t. Failed x t) h
      (record { errors = []; fails = refl; none = none; number = omega arith; last = refl; within = within })
  failed_all x y (pendings ∷ failed) none within h =
      let gone = h.1.gone in
      let another = h.1.another in
      failed_more x h.0 y pendings none h.1
      (failed_all h.0 y failed (ap (λ (t : Retry V M). t.attempt) gone)
      (subst (λ (t : Retry V M). t.number ≤ t.last) (sym gone) (omega arith)) h.2)

  -- Only the last attempt so far may have returned a value.
  gives_last : (x y : Retry V M) (failed : List (List (Poll (Result A E)))) (l : List (Poll (Result A E)))
      (r : Result A E) → FoldsTo (AttemptFails call run) x failed y → Gives (flat_map (λ pendings. pendings) failed ++ l) r
      → Gives l r
  gives_last x y [] l r h g = g
  gives_last x y (pendings ∷ failed) l r h g =
      gives_last h.0 y failed l r h.2
      (gives_back pendings (flat_map (λ pendings. pendings) failed ++ l) r h.1.waited (rw append_assoc at g))

  none_left : (x y : Retry V M) (make : M) (ins : List (Poll (Result A E))) (left : V) (r : Result A E)
      → LeavesAttempt call run x make ins left y → Gives ins r → IfErr r (λ _. x.last ≤ x.number)
  none_left x y make ins left r (inl h) g = absurd (waiting_not_gives ins r h.0 g)
  none_left x y make ins left r (inr h) g = rw (gives_same ins r h.0 g h.1) h.2

  all_made : (r : Result A E) (n m : ℕ) (errors : List E) → n ≡ 0 + length errors → n ≤ m
      → IfErr r (λ _. m ≤ n) → IfErr r (λ _. length errors ≡ m)
  all_made (Ok a) n m errors is within h = tt
  all_made (Err e) n m errors is within h = omega arith

  -- A retry that has not been polled.
  abbrev Fresh : M → ℕ → Retry V M
  Fresh make retries = record { make = make; number = 0; last = retries; attempt = None }

  outcome_from : (make : M) (retries : ℕ) (x y : Retry V M) (ins : List (Poll (Result A E))) (r : Result A E)
      → Failed (Fresh make retries) x → LastAttempt call run x ins y → Gives ins r → Outcome call run make retries r
  outcome_from make retries x y ins r f h given =
      let number : x.number ≡ length f.errors = f.number ∙ omega arith in
      let within : x.number ≤ retries = rw f.last at f.within in
      let left : IfErr r (λ _. retries ≤ x.number) =
      rw f.last at (none_left x y h.make ins h.left r h.leaves given) in
      record {
        errors = f.errors;
        after = x.make;
        left = h.make;
        failed = f.fails;
        decides = (
          h.future,
          ins,
          rw (f.none, number) at h.is_attempt,
          record { gives = given; last = h.left; came = h.polled },
        );
        within = rw (← number) within;
        all_made = all_made r x.number retries f.errors f.number within left;
      }

  -- What the value of a retry says of its attempts.
  pub outcome_of : (make : M) (retries : ℕ) (ins : List (Poll (Result A E))) (r : Result A E)
      → Finishes (Retries call run) (Fresh make retries) ins r → Outcome call run make retries r
  outcome_of make retries ins r h = by h.came
    where
      by : Retries call run (Fresh make retries) ins h.last → Outcome call run make retries r
      by (inl none) = absurd (subst (λ l. Gives l r) none.0 h.gives)
      by (inr ran) =
          outcome_from make retries ran.after h.last (ran.first ∷ ran.later) r
          (failed_all (Fresh make retries) ran.after ran.failed refl (omega arith) ran.fails) ran.last
          (gives_last (Fresh make retries) ran.after ran.failed _ r ran.fails (rw ran.joined at h.gives))

  -- A closure that acts as a function: each attempt had the value that `h` says.
  module _ (make : M) (h : ℕ → Result A E) (makes : MakesValues call run make h) where
    tried : (p q : M) (number : ℕ) (r : Result A E) → p ≡ make → AttemptReturns call run p number r q
        → (q ≡ make) × (r ≡ h number)
    unfolding HasValue
    tried p q number r same t =
        let made = makes number t.0 q (rw same at t.2) in
        (made.0, made.1 t.1 r t.3)

    fewer : (r : Result A E) (n more : ℕ) → IfErr r (λ _. suc n ≡ suc more) → IfErr r (λ _. n ≡ more)
    fewer (Ok a) n more e = tt
    fewer (Err e) n more same = omega arith

    chosen : (p after left : M) (errors : List E) (number more : ℕ) (r : Result A E) → p ≡ make
        → AttemptsFail call run p number errors after → AttemptReturns call run after (number + length errors) r left
        → length errors ≤ more → IfErr r (λ _. length errors ≡ more)
        → r ≡ first_ok (h number) (map h (range_with_len (number + 1) more))
    chosen p after left [] number zero r same fails t within all =
        (tried after left (number + 0) r (fails ∙ same) t).1 ∙ ap h (add-zero number)
    chosen p after left [] number (suc more) (Ok a) same fails t within all =
        let is : Ok a ≡ h number = (tried after left (number + 0) (Ok a) (fails ∙ same) t).1 ∙ ap h (add-zero number) in
        subst (λ w. Ok a ≡ first_ok w (h (number + 1) ∷ map h (range_with_len (number + 1 + 1) more))) is refl
    chosen p after left [] number (suc more) (Err e) same fails t within all = absurd (omega (arith, all))
    chosen p after left (e ∷ errors) number zero r same fails t within all = absurd (omega (arith, within))
    chosen p after left (e ∷ errors) number (suc more) r same fails t within all =
        let first = tried p fails.0 number (Err e) same fails.1 in
        let next : number + suc (length errors) ≡ number + 1 + length errors = omega arith in
        let later : AttemptReturns call run after (number + 1 + length errors) r left =
        subst (λ n. AttemptReturns call run after n r left) next t in
        subst (λ w. r ≡ first_ok w (h (number + 1) ∷ map h (range_with_len (number + 1 + 1) more))) first.1
        (chosen fails.0 after left errors (number + 1) more r first.0 fails.2 later (omega (arith, within))
        (fewer r (length errors) more all))

    chosen_of : (retries : ℕ) (r : Result A E) → Outcome call run make retries r
        → r ≡ first_ok (h 0) (map h (range_with_len 1 retries))
    chosen_of retries r o =
        chosen make o.after o.left o.errors 0 retries r refl o.failed
        (subst (λ n. AttemptReturns call run o.after n r o.left) (sym (zero-add (length o.errors))) o.decides) o.within o.all_made

  -- The value of a retry that was waited for.
  pub waited_outcome : (make : M) (retries : ℕ)
      → ValueHolds AllocError (Retries call run) (Fresh make retries) (Outcome call run make retries)
  unfolding Waited Seen
  waited_outcome make retries (Ok r) w = (tt, outcome_of make retries w.0 r w.1)
  waited_outcome make retries (Err e) w = (tt, tt)

  module _ (make : M) (retries : ℕ) (h : ℕ → Result A E) (makes : MakesValues call run make h) where
    has_first_ok : HasValue (Retries call run) (Fresh make retries) (first_ok (h 0) (map h (range_with_len 1 retries)))
    unfolding HasValue
    has_first_ok ins r d = chosen_of make h makes retries r (outcome_of make retries ins r d)

    waited_first_ok : ValueHolds AllocError (Retries call run) (Fresh make retries)
        (λ r. r ≡ first_ok (h 0) (map h (range_with_len 1 retries)))
    unfolding HasValue Waited Seen
    waited_first_ok (Ok r) w = (tt, has_first_ok w.0 r w.1)
    waited_first_ok (Err e) w = (tt, tt)

    pub first_ok_value : HasValueAs (Retries call run) (Fresh make retries)
        (first_ok (h 0) (map h (range_with_len 1 retries)))
    first_ok_value = ((refl, waited_first_ok), has_first_ok)
