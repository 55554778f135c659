-- `find_map`: the first `Some` that the function returns.
use Rattle.std.specs.Prelude.{◌≡◌, Option, Some, None, IsSome}
use Rattle.lite_consume.specs.Uses.{Question}
use Rattle.lite_consume.specs.Consuming.{Fold}

module _ {F A B : Type 0} (call : Question F A (Option B)) where
  -- An item for which the function returns `None` is consumed. If it returns `Some`, that is the value.
  abbrev pub FindMapStep : Question F A (Option (Option B))
  FindMapStep p x None q = call p x None q
  FindMapStep p x (Some r) q = IsSome r × call p x r q

  -- The value is the first `Some` that the function returns, or `None` if it returns none before the end of the stream.
  abbrev pub finds_map : Fold F A (Option B)
  finds_map = record { asks = FindMapStep; closes = λ p r q. (r ≡ None) × (q ≡ p) }
