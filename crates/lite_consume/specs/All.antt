-- `all`: whether the predicate accepts each item.
use Rattle.std.specs.Prelude.{Bool, true, false}
use Rattle.lite_consume.specs.Uses.{Question}
use Rattle.lite_consume.specs.Consuming.{Fold}
use Rattle.lite_consume.specs.TestedUntil.{tested_until}

-- The value is false at the first item that the predicate rejects, and true at the end of the stream.
abbrev pub all_fold : {F A : Type 0} → Question F A Bool → Fold F A Bool
all_fold test = tested_until test true false
