-- `count`: the number of the items, modulo 2^64.
use Rattle.std.specs.Prelude.{◌≡◌, ℕ, ◌+◌, ◌%◌, ◌^◌, None}
use Rattle.lite_consume.specs.Consuming.{Fold}

-- Each item adds one, and the value is how many items came.
abbrev pub counts : {A : Type 0} → Fold ℕ A ℕ
counts = record { asks = λ n x o m. (o ≡ None) × (m ≡ (n + 1) % 2 ^ 64); closes = λ n r m. (r ≡ n) × (m ≡ n) }
