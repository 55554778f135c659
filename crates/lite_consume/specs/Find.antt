-- `find`: the first item that the predicate accepts.
use Rattle.std.specs.Prelude.{◌≡◌, Option, Some, None, Bool, true, false}
use Rattle.lite_consume.specs.Uses.{Question}
use Rattle.lite_consume.specs.Consuming.{Fold}

module _ {F A : Type 0} (test : Question F A Bool) where
  -- An item that the predicate rejects is consumed. An item that it accepts is the value.
  abbrev pub FindStep : Question F A (Option (Option A))
  FindStep p x None q = test p x false q
  FindStep p x (Some r) q = (r ≡ Some x) × test p x true q

  -- The value is the first item that the predicate accepts, or `None` if it accepts none before the end of the stream.
  abbrev pub finds : Fold F A (Option A)
  finds = record { asks = FindStep; closes = λ p r q. (r ≡ None) × (q ≡ p) }
