-- `next`: the next item, or `None` at the end of the stream.
use Rattle.std.specs.Prelude.{◌≡◌, Option, Some, None}
use Rattle.lite_consume.specs.Consuming.{Fold}

-- The first item is the value, so none is consumed.
abbrev pub NextItem : {A : Type 0} → A → Option (Option A) → Type 0
NextItem x None = ⊥
NextItem x (Some r) = r ≡ Some x

-- The value is the first item, or `None` at the end of the stream.
abbrev pub nexts : {M A : Type 0} → Fold M A (Option A)
nexts = record { asks = λ p x o q. NextItem x o; closes = λ p r q. r ≡ None }
