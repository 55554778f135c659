-- Tasks that have a poll limit: what becomes of each.
use Rattle.std.proofs.Common.{◌≡◌, ◌≤◌, ◌<◌, ◌+◌, ℕ, suc, List, [], ◌∷◌, length, map, Option, Some, None, Result, Ok, Err}
use Rattle.std.proofs.Common.{arith, refl}
use Rattle.std.specs.List.{AllByRecursion, cons_option, filter_map}
use Rattle.futures_lite.specs.Answers.{Gives, Poll, Waiting}
use Rattle.futures_lite.specs.Futures.{LimitsPolls, SpendsPolls}
use Rattle.futures_lite.specs.Own.{Runs}
use Rattle.futures_lite.specs.declared.future.PollLimited.{PollLimited}
use Rattle.futures_lite.specs.declared.future.Exhausted.{Exhausted}
use Rattle.example_executor.specs.Outcomes.{EachOutcome, OutcomeWithin, task_within}
use Rattle.example_executor.specs.Tasks.{AnsweredBy, EachRan, MayRun, finished, one_if_some}
use Rattle.example_executor.specs.declared.task.Task.{Task}

module _ {A : Type 0} where
  value_within : {n m : ℕ} {ins : List (Poll A)} {out : List (Poll (Result A Exhausted))} (v : A) → SpendsPolls n ins out m
      → Gives out (Ok v)
      → Gives ins v × (length ins ≤ n)
  value_within v (SpendsPolls.nothing n) g = absurd g
  value_within v (SpendsPolls.waits n m ins out h) g =
      let less = value_within v h g in
      (less.0, omega (arith, less.1))
  value_within v (SpendsPolls.last e) g = absurd (cc g.0)
  value_within v (SpendsPolls.over e) g = absurd (cc g.0)
  value_within v (SpendsPolls.value n w) g = ((cc g.0, refl), omega arith)

  all_spent : {n m : ℕ} {ins : List (Poll A)} {out : List (Poll (Result A Exhausted))} (e : Exhausted) → SpendsPolls n ins out m
      → Gives out (Err e)
      → Waiting ins × (length ins ≡ n)
  all_spent e (SpendsPolls.nothing n) g = absurd g
  all_spent e (SpendsPolls.waits n m ins out h) g =
      let less = all_spent e h g in
      (less.0, omega (arith, less.1))
  all_spent e (SpendsPolls.last x) g = (tt, refl)
  all_spent e (SpendsPolls.over x) g = (tt, refl)
  all_spent e (SpendsPolls.value n w) g = absurd (cc g.0)

module _ {F A : Type 0} (run : Runs (Poll A) F) (polls : ℕ) where
  outcome_of : (x : F) (y : PollLimited F) (l : List (Poll (Result A Exhausted))) (r : Result A Exhausted)
      → LimitsPolls run (record { inner = x; left = polls }) l y → Gives l r
      → OutcomeWithin run polls x r
  outcome_of x y l (Ok v) h g = let spent = value_within v h.2 g in (h.0, y.inner, h.1, spent.0, spent.1)
  outcome_of x y l (Err e) h g = let spent = all_spent e h.2 g in (h.0, y.inner, h.1, spent.0, spent.1)

  -- before the polls
  pub may_run : (can_poll : F → Type 0) (xs : List F) → AllByRecursion can_poll xs
      → AllByRecursion (MayRun (λ x. 0 < x.left → can_poll x.inner)) (map (task_within {A = A} polls) xs)
  may_run can_poll [] h = tt
  may_run can_poll (x ∷ xs) h = (λ some. h.0, may_run can_poll xs h.1)

  pub none_finished : (xs : List F) → finished (map (task_within {A = A} polls) xs) ≡ 0
  none_finished [] = refl
  none_finished (x ∷ xs) = omega (arith, none_finished xs)

  -- after the polls
  counted : (v : Option (Result A Exhausted)) (n m : ℕ) → n ≤ m → one_if_some v + n ≤ suc m
  counted None n m less = omega (arith, less)
  counted (Some r) n m less = omega (arith, less)

  at_most : (xs : List F) (ys : List (Task (PollLimited F) (Result A Exhausted)))
      → EachRan (LimitsPolls run) (map (task_within polls) xs) ys
      → finished ys ≤ length xs
  at_most [] [] h = omega arith
  at_most (x ∷ xs) (y ∷ ys) h = counted y.value (finished ys) (length xs) (at_most xs ys h.1)
  at_most [] (y ∷ ys) h = absurd h
  at_most (x ∷ xs) [] h = absurd h

  one_outcome : (x : F) (y : PollLimited F) (xs : List F) (rest : List (Result A Exhausted)) (n : ℕ)
      → (v : Option (Result A Exhausted))
      → (l : List (Poll (Result A Exhausted))) × LimitsPolls run (record { inner = x; left = polls }) l y × AnsweredBy v l
      → n ≤ length xs → one_if_some v + n ≡ suc (length xs) → (n ≡ length xs → EachOutcome run polls xs rest)
      → EachOutcome run polls (x ∷ xs) (cons_option v rest)
  one_outcome x y xs rest n None ran less sum others = absurd (omega (arith, less, sum))
  one_outcome x y xs rest n (Some r) ran less sum others =
      (outcome_of x y ran.0 r ran.1 ran.2, others (omega (arith, sum)))

  pub each_outcome : (xs : List F) (ys : List (Task (PollLimited F) (Result A Exhausted)))
      → EachRan (LimitsPolls run) (map (task_within polls) xs) ys → finished ys ≡ length xs
      → EachOutcome run polls xs (filter_map (λ task. task.value) ys)
  each_outcome [] [] h all = tt
  each_outcome (x ∷ xs) (y ∷ ys) h all =
      one_outcome x y.future xs _ (finished ys) y.value h.0 (at_most xs ys h.1) all (λ same. each_outcome xs ys h.1 same)
  each_outcome [] (y ∷ ys) h all = absurd h
  each_outcome (x ∷ xs) [] h all = absurd h
