-- `with_budget` of a reader: it returns a `Pending` of its own after so many bytes and errors in a row.
use Rattle.std.specs.Prelude.{◌≡◌, ℕ, zero, suc, ◌-◌, List, [], ◌∷◌, Option, Some, None, take, ⊤, Result}
use Rattle.lite_buffered.specs.Uses.{HoldsWoken, Lasting, ErrorKind, SeekFrom, Poll, Ranks, Runs, ReadMark, WriteMark}
use Rattle.lite_base.specs.Segments.{Paces}
use Rattle.lite_buffered.specs.declared.budgeted.Budgeted.{Budgeted}

-- The reader that is read.
abbrev pub budgeted_inner : {R : Type 0} → Budgeted R → R
budgeted_inner x = x.reader

-- The budget: how many bytes and errors may come in a row.
abbrev pub budget_of : {R : Type 0} → Budgeted R → ℕ
budget_of x = x.budget

-- How much of the budget is left: the number noted, or the whole budget if none is noted.
abbrev pub left_noted : ℕ → Option ℕ → ℕ
left_noted budget None = budget
left_noted budget (Some n) = n

-- How much of its budget a reader has left.
abbrev pub left_of : {R : Type 0} → Budgeted R → ℕ
left_of x = left_noted x.budget x.left

-- What a `Pending` has registered, by the rest of the budget that is noted after it and by what the inner reader
-- registers. If no rest is noted, the task is woken.
abbrev pub RegistersNoted : Option ℕ → (Lasting → Type 0) → Lasting → Type 0
RegistersNoted None inner = HoldsWoken
RegistersNoted (Some n) inner = inner

-- The rest of its budget that a reader has noted: none after a `Pending` of its own.
abbrev pub noted_of : {R : Type 0} → Budgeted R → Option ℕ
noted_of x = x.left

-- What a `Pending` of a reader with a budget has registered, from what its inner reader registers.
abbrev pub BudgetRegisters : {R : Type 0} → (R → Lasting → Type 0) → Budgeted R → Lasting → Type 0
BudgetRegisters registers x = RegistersNoted (noted_of x) (registers x.reader)

-- What a `Pending` has registered, by how much of the budget was left before it and by what the inner reader registers.
-- If nothing was left, the `Pending` is the budget's own, and the task is woken. Otherwise it is the inner reader's.
abbrev pub RegistersRest : ℕ → (Lasting → Type 0) → Lasting → Type 0
RegistersRest zero inner = HoldsWoken
RegistersRest (suc n) inner = inner

-- The bytes that `fill_buf` may return: at most as many as the budget that is noted. After a `Pending` of the budget
-- none is noted, and no byte is returned.
abbrev pub lent_noted : Option ℕ → List ℕ → List ℕ
lent_noted None bytes = []
lent_noted (Some n) bytes = take n bytes

-- The bytes that a reader with a budget has buffered, from those of its inner reader.
abbrev pub budgeted_lent : {R : Type 0} → (R → List ℕ) → Budgeted R → List ℕ
budgeted_lent buffer_of x = lent_noted x.left (buffer_of x.reader)

-- How much of the budget is left after a mark. A byte or an error uses one, a `Pending` restores the whole budget, and
-- end of file uses none.
abbrev pub left_behind_mark : ℕ → ReadMark → ℕ → ℕ
left_behind_mark budget (ReadMark.byte b) n = n - 1
left_behind_mark budget ReadMark.pending n = budget
left_behind_mark budget (ReadMark.fault kind) n = n - 1
left_behind_mark budget ReadMark.end n = n

-- The inner reader's marks, with a `Pending` added when the budget is used up. Each pair is the budget and how much of
-- it is left.
abbrev pub PacesMarks : ℕ × ℕ → List ReadMark → List ReadMark → ℕ × ℕ → Type 0
PacesMarks = Paces ReadMark.pending left_behind_mark

-- The run of a reader with a budget: the inner reader's marks, with a `Pending` added after so many bytes and errors in
-- a row. After each `Pending` the whole budget is left again.
pub record BudgetsMarks {R : Type 0} (reads : Runs ReadMark R) (x : Budgeted R) (ms : List ReadMark)
    (y : Budgeted R) : Type 0 where
  pub came : List ReadMark
  pub ran : reads x.reader came y.reader
  pub paced : PacesMarks (x.budget, left_of x) came ms (y.budget, left_of y)

-- The budget and the rest of it stay.
abbrev pub SameBudget : {R : Type 0} → Budgeted R → Budgeted R → Type 0
SameBudget x y = (y.budget ≡ x.budget) × (y.left ≡ x.left)

-- The run of writes: they go to the inner writer, and use nothing of the budget.
abbrev pub WritesWithin : {R : Type 0} → Runs WriteMark R → Runs WriteMark (Budgeted R)
WritesWithin writes x ms y = writes x.reader ms y.reader × SameBudget x y

-- A seek goes to the inner seeker, and uses nothing of the budget.
abbrev pub SeeksWithin : {R : Type 0} → (R → SeekFrom → Poll (Result ℕ ErrorKind) → R → Type 0) → Budgeted R
    → SeekFrom → Poll (Result ℕ ErrorKind) → Budgeted R → Type 0
SeeksWithin seeks x pos answer y = seeks x.reader pos answer y.reader × SameBudget x y

-- The rank of a reader with a budget: how much of the budget is left. It counts at each value, but is never firm,
-- because a `Pending` raises it.
abbrev pub budgeted_ranks : {R : Type 0} → Ranks (Budgeted R)
budgeted_ranks = record { width = 1; rank = λ x. left_of x ∷ []; counts = λ _. ⊤; firm = λ _. ⊥ }
