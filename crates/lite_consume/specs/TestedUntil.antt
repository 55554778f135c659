-- Items that are tested until one decides, as `all` and `any` do.
use Rattle.std.specs.Prelude.{◌≡◌, Option, Some, None, Bool}
use Rattle.lite_consume.specs.Uses.{Question}
use Rattle.lite_consume.specs.Consuming.{Fold}

module _ {F A : Type 0} (test : Question F A Bool) (goes_on decides : Bool) where
  -- An item for which the test returns `goes_on` is consumed. If it returns `decides`, that is the value.
  abbrev pub TestStep : Question F A (Option Bool)
  TestStep p x None q = test p x goes_on q
  TestStep p x (Some r) q = (r ≡ decides) × test p x decides q

  -- The value is `decides` at the first item for which the test returns that, and `goes_on` at the end of the stream.
  abbrev pub tested_until : Fold F A Bool
  tested_until = record { asks = TestStep; closes = λ p r q. (r ≡ goes_on) × (q ≡ p) }
