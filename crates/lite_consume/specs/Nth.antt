-- `nth`: the item with the number `n`, counted from 0.
use Rattle.std.specs.Prelude.{◌≡◌, ℕ, ◌+◌, Option, Some, None}
use Rattle.lite_consume.specs.Consuming.{Fold}

-- While `n` is above 0, an item is consumed and lowers it by one. The next item is the value.
abbrev pub NthStep : {A : Type 0} → ℕ → A → Option (Option A) → ℕ → Type 0
NthStep n x None m = n ≡ m + 1
NthStep n x (Some r) m = (n ≡ 0) × (r ≡ Some x) × (m ≡ n)

-- The value is the item with the number `n`, or `None` if fewer items come before the end of the stream.
abbrev pub nths : {A : Type 0} → Fold ℕ A (Option A)
nths = record { asks = NthStep; closes = λ n r m. (r ≡ None) × (m ≡ n) }
