-- What an executor does with its tasks.
use Rattle.std.specs.Prelude.{◌≡◌, ◌+◌, ℕ, Bool, true, false, List, [], ◌∷◌, Option, None, Some, ⊤}
use Rattle.futures_lite.specs.Answers.{Gives, Poll, Waiting}
use Rattle.futures_lite.specs.Own.{Runs}
use Rattle.example_executor.specs.declared.fault.RunError.{RunError}
use Rattle.example_executor.specs.declared.fault.RunError.TheVariants.{Memory, Queue, TooFew}
use Rattle.example_executor.specs.declared.task.Task.{Task}

-- `before` if no value has come yet, and `after` if one has.
abbrev pub WhileNone : {A : Type 0} → Option A → Type 0 → Type 0 → Type 0
WhileNone None before after = before
WhileNone (Some v) before after = after

-- The task's future may be polled, or the task has its value.
abbrev pub MayRun : {F A : Type 0} → (F → Type 0) → Task F A → Type 0
MayRun can_poll x = WhileNone x.value (can_poll x.future) ⊤

-- The results of the polls: only `Pending`s, or `Pending`s and then the value.
abbrev pub AnsweredBy : {A : Type 0} → Option A → List (Poll A) → Type 0
AnsweredBy None l = Waiting l
AnsweredBy (Some v) l = Gives l v

-- The task's future was polled some times, and the task has the value that it returned, if it did. A task that had its
-- value stays as it was.
abbrev pub TaskRan : {F A : Type 0} → Runs (Poll A) F → Task F A → Task F A → Type 0
TaskRan {F} {A} run x y =
    WhileNone x.value ((l : List (Poll A)) × run x.future l y.future × AnsweredBy y.value l) (y ≡ x)

-- Each task ran as `TaskRan` says.
abbrev pub EachRan : {F A : Type 0} → Runs (Poll A) F → List (Task F A) → List (Task F A) → Type 0
EachRan run [] [] = ⊤
EachRan run (x ∷ xs) (y ∷ ys) = TaskRan run x y × EachRan run xs ys
EachRan run xs ys = ⊥

-- 1 if there is a value, and 0 if not.
abbrev pub one_if_some : {A : Type 0} → Option A → ℕ
one_if_some None = 0
one_if_some (Some v) = 1

-- How many tasks have their values.
abbrev pub finished : {F A : Type 0} → List (Task F A) → ℕ
finished [] = 0
finished (x ∷ xs) = one_if_some x.value + finished xs

-- One more if the condition is true.
abbrev pub one_more_if : Bool → ℕ → ℕ
one_more_if true n = 1 + n
one_more_if false n = n

-- What an error leaves: `few` holds if it says that too few tasks have their values, and `same` if no task was polled.
abbrev pub StopsWhere : RunError → Type 0 → Type 0 → Type 0
StopsWhere (Queue e) few same = same
StopsWhere Memory few same = same
StopsWhere TooFew few same = few
