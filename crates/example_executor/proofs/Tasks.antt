-- Tasks that ran, one poll after another.
use Rattle.std.proofs.Common.{◌≡◌, ◌∙◌, ◌<◌, ◌+◌, ℕ, zero, suc, Bool, true, false, List, [], ◌∷◌, ◌++◌, length}
use Rattle.std.proofs.Common.{slice_set, Option, Some, None}
use Rattle.std.proofs.Common.{ap, arith, refl}
use Rattle.std.proofs.Math.ListN.{get_or}
use Rattle.futures_lite.specs.Answers.{Poll, Pending, Ready, Waiting}
use Rattle.futures_lite.specs.Futures.{FutureLaws}
use Rattle.futures_lite.specs.Own.{Runs}
use Rattle.example_executor.specs.Tasks.{AnsweredBy, EachRan, TaskRan, WhileNone, finished, one_if_some, one_more_if}
use Rattle.example_executor.specs.declared.task.Task.{Task}

-- pendings, and then what comes
waited_by : {A : Type 0} (v : Option A) (l m : List (Poll A)) → Waiting l → AnsweredBy v m → AnsweredBy v (l ++ m)
waited_by v [] m w h = h
waited_by None (Pending ∷ l) m w h = waited_by None l m w h
waited_by (Some v) (Pending ∷ l) m w h = waited_by (Some v) l m w h
waited_by v (Ready x ∷ l) m w h = absurd w

one_more_first : (b : Bool) (m n : ℕ) → one_more_if b m + n ≡ one_more_if b (m + n)
one_more_first true m n = omega arith
one_more_first false m n = refl

one_more_last : (b : Bool) (m n : ℕ) → m + one_more_if b n ≡ one_more_if b (m + n)
one_more_last true m n = omega arith
one_more_last false m n = refl

pub one_came : (b : Bool) (n m : ℕ) → b ≡ true → m ≡ one_more_if b n → m ≡ 1 + n
one_came true n m is h = h
one_came false n m is h = absurd (cc is)

pub none_came : (b : Bool) (n m : ℕ) → b ≡ false → m ≡ one_more_if b n → m ≡ n
none_came true n m is h = absurd (cc is)
none_came false n m is h = h

-- where one of them has come to its value
pub finished_set : {F A : Type 0} (xs : List (Task F A)) (at : ℕ) (x y d : Task F A) (b : Bool) → at < length xs
    → x ≡ get_or xs at d → one_if_some y.value ≡ one_more_if b (one_if_some x.value)
    → finished (slice_set xs at y) ≡ one_more_if b (finished xs)
finished_set [] at x y d b within is h = absurd (omega (arith, within))
finished_set (t ∷ xs) zero x y d b within is h =
    let first : one_if_some y.value ≡ one_more_if b (one_if_some t.value) = rw (← is) h in
    ap (λ n. n + finished xs) first ∙ one_more_first b (one_if_some t.value) (finished xs)
finished_set (t ∷ xs) (suc at) x y d b within is h =
    let shorter : at < length xs = omega (arith, within) in
    ap (λ n. one_if_some t.value + n) (finished_set xs at x y d b shorter is h)
    ∙ one_more_last b (one_if_some t.value) (finished xs)

module _ {F A : Type 0} {can_poll : F → Type 0} {run : Runs (Poll A) F} (laws : FutureLaws can_poll run) where
  pub task_idle : (x : Task F A) → TaskRan run x x
  task_idle x = by_value x.value
    where
      by_value : (v : Option A) → WhileNone v ((l : List (Poll A)) × run x.future l x.future × AnsweredBy v l) (x ≡ x)
      by_value None = ([], laws.rests x.future, tt)
      by_value (Some v) = refl

  pub each_idle : (xs : List (Task F A)) → EachRan run xs xs
  each_idle [] = tt
  each_idle (x ∷ xs) = (task_idle x, each_idle xs)

  task_follows : (x y z : Task F A) → TaskRan run x y → TaskRan run y z → TaskRan run x z
  task_follows x y z = by_values x.value y.value refl refl
    where
      by_values : (v w : Option A) → x.value ≡ v → y.value ≡ w
          → WhileNone v ((l : List (Poll A)) × run x.future l y.future × AnsweredBy w l) (y ≡ x)
          → WhileNone w ((l : List (Poll A)) × run y.future l z.future × AnsweredBy z.value l) (z ≡ y)
          → WhileNone v ((l : List (Poll A)) × run x.future l z.future × AnsweredBy z.value l) (z ≡ x)
      by_values None None d e h k = (
        h.0 ++ k.0,
        laws.follows x.future y.future z.future h.0 k.0 h.2 h.1 k.1,
        waited_by z.value h.0 k.0 h.2 k.2,
      )
      by_values None (Some w) d e h k = rw (k, e) h
      by_values (Some v) None d e h k = absurd (cc (d, e, h))
      by_values (Some v) (Some w) d e h k = k ∙ h

  pub each_follows : (xs ys zs : List (Task F A)) → EachRan run xs ys → EachRan run ys zs → EachRan run xs zs
  each_follows [] [] [] h k = tt
  each_follows (x ∷ xs) (y ∷ ys) (z ∷ zs) h k = (task_follows x y z h.0 k.0, each_follows xs ys zs h.1 k.1)
  each_follows [] (y ∷ ys) zs h k = absurd h
  each_follows (x ∷ xs) [] zs h k = absurd h
  each_follows [] [] (z ∷ zs) h k = absurd k
  each_follows (x ∷ xs) (y ∷ ys) [] h k = absurd k

  -- one of them ran
  pub each_set : (xs : List (Task F A)) (at : ℕ) (x y d : Task F A) → at < length xs → x ≡ get_or xs at d
      → TaskRan run x y
      → EachRan run xs (slice_set xs at y)
  each_set [] at x y d within is h = absurd (omega (arith, within))
  each_set (t ∷ xs) zero x y d within is h = (rw is at h, each_idle xs)
  each_set (t ∷ xs) (suc at) x y d within is h =
      let shorter : at < length xs = omega (arith, within) in
      (task_idle t, each_set xs at x y d shorter is h)
