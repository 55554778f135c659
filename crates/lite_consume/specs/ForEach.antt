-- `for_each`: the function is called with each item.
use Rattle.std.specs.Prelude.{◌≡◌, None}
use Rattle.lite_consume.specs.Uses.{Question}
use Rattle.lite_consume.specs.Consuming.{Fold}

-- Each item is consumed by a call of the function, and the value at the end of the stream is `()`.
abbrev pub calls_each : {F A : Type 0} → Question F A (Unit {0}) → Fold F A (Unit {0})
calls_each call = record { asks = λ p x o q. (o ≡ None) × call p x tt q; closes = λ p r q. q ≡ p }
