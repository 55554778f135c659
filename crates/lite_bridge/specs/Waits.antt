-- Calls that block until a poll is ready.
use Rattle.std.specs.Prelude.{◌≡◌, ◌⊎◌, ℕ, zero, suc, List, ◌++◌, Result, IsErrAnd, replicate}
use Rattle.lite_bridge.specs.Uses.{error_kind, Error, ErrorKind, SeekFrom, OutOfMemory, Poll, Pending, Ready, Gives, Runs, by_kind}

-- No call has waited before, and the allocation of what a wait needs failed. The result is an `OutOfMemory` error.
abbrev pub NoMemoryToWait : {A : Type 0} → Type 0 → Result A Error → Type 0
NoMemoryToWait unused r = unused × IsErrAnd r (λ e. error_kind e ≡ OutOfMemory)

-- A future was polled until its value `r`, after some `Pending`s. Otherwise the allocation for the first wait failed,
-- and the future was not polled.
abbrev pub GaveOrRefused : {F A : Type 0} → Type 0 → Runs (Poll (Result A Error)) F → F → Result A Error → F → Type 0
GaveOrRefused {A = A} unused run f r g =
    ((ins : List (Poll (Result A Error))) × Gives ins r × run f ins g) ⊎ (NoMemoryToWait unused r × (g ≡ f))

-- A call that waits: some `Pending`s, and then the marks of its result. Otherwise the allocation for the first wait
-- failed, and nothing was polled.
abbrev pub Blocks : {M A S : Type 0} → Type 0 → Runs M S → M → (Poll (Result A Error) → List M) → S → Result A Error → S
    → Type 0
Blocks unused run pending marks x r y =
    ((n : ℕ) × run x (replicate n pending ++ marks (Ready r)) y) ⊎ (NoMemoryToWait unused r × (y ≡ x))

-- `n` seeks to the same position, each of them pending.
abbrev pub Awaits : {S : Type 0} → (S → SeekFrom → Poll (Result ℕ ErrorKind) → S → Type 0) → SeekFrom → ℕ → S → S
    → Type 0
Awaits seeks to zero x y = y ≡ x
Awaits {S} seeks to (suc n) x y = (m : S) × seeks x to Pending m × Awaits seeks to n m y

-- A seek that waits: some pending seeks to the same position, and then one with this result. Otherwise the allocation
-- for the first wait failed, and nothing was polled.
abbrev pub SeekBlocks : {S : Type 0} → Type 0 → (S → SeekFrom → Poll (Result ℕ ErrorKind) → S → Type 0) → S → SeekFrom
    → Result ℕ Error → S → Type 0
SeekBlocks {S} unused seeks x to r y =
    ((n : ℕ) × (last : S) × Awaits seeks to n x last × seeks last to (by_kind (Ready r)) y)
    ⊎ (NoMemoryToWait unused r × (y ≡ x))
