-- `skip`: the first `n` items are left out.
use Rattle.std.specs.Prelude.{ℕ, ◌==◌, ◌-◌, Option}
use Rattle.lite_reshape.specs.Uses.{Answer, Runs, AdapterParts, Through, parts_of}
use Rattle.lite_reshape.specs.Leaving.{LeavesOut, Selects}
use Rattle.lite_reshape.specs.declared.skip.Skip.{Skip}

-- An item is kept if `n` is 0. Otherwise it is left out, and `n` is one less.
abbrev pub Skips : {A : Type 0} → ℕ → A → Option A → ℕ → Type 0
Skips = Selects (λ n x. n == 0) (λ n x. n - 1)

-- The source's results without its first `n` items.
abbrev pub SkipsFirst : {S A : Type 0} → Runs (Answer A) S → Runs (Answer A) (Skip S)
SkipsFirst run x l y = Through run (LeavesOut Skips) x.stream x.n l y.stream y.n

-- A `Skip` consists of its source and how many items are still to be left out.
abbrev pub skip_parts : {S : Type 0} → AdapterParts (Skip S) S ℕ
skip_parts = parts_of (λ m. m.stream) (λ m. m.n) (λ s h. record { stream = s; n = h }) (λ x y p. p)
