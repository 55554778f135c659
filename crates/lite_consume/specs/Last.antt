-- `last`: the last item before the end of the stream.
use Rattle.std.specs.Prelude.{◌≡◌, Option, Some, None}
use Rattle.lite_consume.specs.Consuming.{Fold}

-- The value is the last item before the end of the stream, or `None` if none came.
abbrev pub lasts : {A : Type 0} → Fold (Option A) A (Option A)
lasts = record { asks = λ p x o q. (o ≡ None) × (q ≡ Some x); closes = λ p r q. r ≡ p }
