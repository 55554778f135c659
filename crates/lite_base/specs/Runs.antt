-- The kinds of relations that specify a value of a type `S`. A run speaks of a whole list of poll results, and a hint
-- of one call. No definition retells a loop of the code, and one names a field only for what a value holds.
use Rattle.std.specs.Prelude.{◌≡◌, ℕ, List, Option, None}
use Rattle.lite_base.specs.Uses.{MutBor}

-- A run: from the first value, polls return the listed results in order and leave the second value. A type states its
-- runs in its ghost member `run`, as a stream of your own does. A value may return any list of which it has a run. What
-- a value holds between polls comes before the results of its source.
abbrev pub Runs : Type 0 → Type 0 → Type 1
Runs A S = S → List A → S → Type 0

-- The size hints that a value may return: at least so many items, and at most so many or no bound.
abbrev pub Hints : Type 0 → Type 1
Hints S = S → ℕ × Option ℕ → Type 0

-- A call with one argument: in one state, with an `A`, it returns a `B` and leaves another state.
abbrev pub Question : Type 0 → Type 0 → Type 0 → Type 1
Question F A B = F → A → B → F → Type 0

-- The size hint is `(0, None)`, which says nothing.
abbrev pub NoHint : {S : Type 0} → Hints S
NoHint x hint = hint ≡ (0, None)

-- A stream or a future behind a `&mut` reference: what the reference points to is polled.

-- The value behind the reference has the run, and the reference itself stays the same.
abbrev pub Lent : {S A : Type 0} → Runs A S → Runs A (MutBor S)
Lent run x l y = run x.now l y.now × (y ≡ record x { now = y.now })
