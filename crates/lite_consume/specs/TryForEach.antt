-- `try_for_each`: the function is called with each item. The first error that it returns is the value.
use Rattle.std.specs.Prelude.{◌≡◌, Option, Some, None, Result, Ok, IsErr}
use Rattle.lite_consume.specs.Uses.{Question}
use Rattle.lite_consume.specs.Consuming.{Fold}

module _ {F A E : Type 0} (call : Question F A (Result (Unit {0}) E)) where
  -- An item for which the function returns `Ok` is consumed. An error that it returns is the value.
  abbrev pub TryForEachStep : Question F A (Option (Result (Unit {0}) E))
  TryForEachStep p x None q = call p x (Ok tt) q
  TryForEachStep p x (Some r) q = IsErr r × call p x r q

  -- The value is the first error that the function returns, or `Ok(())` at the end of the stream.
  abbrev pub try_each_fold : Fold F A (Result (Unit {0}) E)
  try_each_fold = record { asks = TryForEachStep; closes = λ p r q. (r ≡ Ok tt) × (q ≡ p) }
