-- `with_budget`: the stream returns a `Pending` of its own after a number of items in a row.
use Rattle.std.specs.Prelude.{◌≡◌, ◌==◌, ℕ, Bool, true, false, ⊤, List, [], ◌∷◌}
use Rattle.lite_base.specs.Registered.{HoldsWoken}
use Rattle.lite_merge.specs.Uses.{Lasting, Pending, Ready, Answer, Paces, left_behind, Ranks, Runs, AdapterParts, Relates, Through, parts_of}
use Rattle.lite_merge.specs.declared.budgeted.Budgeted.{Budgeted}

-- Whether the last `Pending` is the stream's own, if this result comes next. `own` says whether a `Pending` that comes
-- now is, and `before` whether the last one was.
abbrev pub paused_by : {A : Type 0} → Answer A → Bool → Bool → Bool
paused_by Pending own before = own
paused_by (Ready x) own before = before

-- Whether the last `Pending` is the stream's own after these results. It is if nothing was left of the budget before
-- it. The pair is the budget and what is left of it, and `before` says whether the last `Pending` before them was.
abbrev pub paused_after : {A : Type 0} → ℕ × ℕ → Bool → List (Answer A) → Bool
paused_after p before [] = before
paused_after p before (a ∷ out) = paused_after (p.0, left_behind p.0 a p.1) (paused_by a (p.1 == 0) before) out

-- The source's results, with one more `Pending` whenever the budget of items in a row is used up. After each `Pending`
-- the whole budget is available again. The state is the budget, what is left of it, and whether the last `Pending` was
-- the stream's own.
abbrev pub PacesNoting : {A : Type 0} → Relates (ℕ × ℕ × Bool) A A
PacesNoting p ins out q =
    Paces Pending left_behind (p.0, p.1) ins out (q.0, q.1) × (q.2 ≡ paused_after (p.0, p.1) p.2 out)

-- The run of a stream with a budget: its source's results, with a `Pending` of its own whenever the budget is used up.
abbrev pub Budgets : {S A : Type 0} → Runs (Answer A) S → Runs (Answer A) (Budgeted S)
Budgets run x l y = Through run PacesNoting x.stream (x.budget, x.left, x.paused) l y.stream (y.budget, y.left, y.paused)

-- A `Budgeted` consists of its source, and of its budget with what is left of that, and with the cause of the last
-- `Pending`.
abbrev pub budget_parts : {S : Type 0} → AdapterParts (Budgeted S) S (ℕ × ℕ × Bool)
budget_parts =
    parts_of (λ m. m.stream) (λ m. (m.budget, m.left, m.paused))
    (λ s h. record { stream = s; budget = h.0; left = h.1; paused = h.2 }) (λ x y p. p)

-- The rank is what is left of the budget. It counts at each value. It is never firm, because a `Pending` raises it.
abbrev pub budget_ranks : {S : Type 0} → Ranks (Budgeted S)
budget_ranks = record { width = 1; rank = λ m. m.left ∷ []; counts = λ _. ⊤; firm = λ _. ⊥ }

-- What a `Pending` has registered, by its cause. If it is the stream's own, which `paused` says, the task is woken.
-- Otherwise it is the source's `Pending`, which has registered `source`.
abbrev pub RegistersPaused : Bool → (Lasting → Type 0) → Lasting → Type 0
RegistersPaused true source = HoldsWoken
RegistersPaused false source = source

-- What a `Pending` of a stream with a budget has registered, from what its source registers.
abbrev pub PacedRegisters : {S : Type 0} → (S → Lasting → Type 0) → Budgeted S → Lasting → Type 0
PacedRegisters registers x = RegistersPaused x.paused (registers x.stream)
