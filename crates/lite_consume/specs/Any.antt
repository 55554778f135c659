-- `any`: whether the predicate accepts an item.
use Rattle.std.specs.Prelude.{Bool, true, false}
use Rattle.lite_consume.specs.Uses.{Question}
use Rattle.lite_consume.specs.Consuming.{Fold}
use Rattle.lite_consume.specs.TestedUntil.{tested_until}

-- The value is true at the first item that the predicate accepts, and false at the end of the stream.
abbrev pub any_fold : {F A : Type 0} → Question F A Bool → Fold F A Bool
any_fold test = tested_until test false true
