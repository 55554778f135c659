-- `try_next`: as `next`, for a stream of Results: `Ok(Some(x))`, an error, or `Ok(None)` at the end of the stream.
use Rattle.std.specs.Prelude.{◌≡◌, Option, Some, None, Result, Ok, Err}
use Rattle.lite_consume.specs.Uses.{OptionBy, Sameness}
use Rattle.lite_consume.specs.Consuming.{Fold}

-- The first item is the value, `Ok(x)` as `Ok(Some(x))`, so none is consumed.
abbrev pub TryNextItem : {T E : Type 0} → Result T E → Option (Result (Option T) E) → Type 0
TryNextItem x None = ⊥
TryNextItem (Ok x) (Some r) = r ≡ Ok (Some x)
TryNextItem (Err e) (Some r) = r ≡ Err e

-- The value is the first item, `Ok(x)` as `Ok(Some(x))` and an error as itself, or `Ok(None)` at the end of the stream.
abbrev pub tries_next : {M T E : Type 0} → Fold M (Result T E) (Result (Option T) E)
tries_next = record { asks = λ p x o q. TryNextItem x o; closes = λ p r q. r ≡ Ok None }

-- The item that led to the value: `None` if that was the end of the stream.
abbrev pub next_item_of : {T E : Type 0} → Result (Option T) E → Option (Result T E)
next_item_of (Ok None) = None
next_item_of (Ok (Some x)) = Some (Ok x)
next_item_of (Err e) = Some (Err e)

-- When values of `try_next` are the same: if the items that led to them are, or both are those of the end of the
-- stream.
abbrev pub SameNext : {T E : Type 0} → Sameness (Result T E) → Sameness (Result (Option T) E)
SameNext Sameness.equal = Sameness.equal
SameNext (Sameness.by same) = Sameness.by (λ r t. OptionBy same (next_item_of r) (next_item_of t))
