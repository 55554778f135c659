-- Collections with room for some items, and for all.
use Rattle.std.specs.Prelude.{◌≡◌, List}
use Rattle.theorems_at_types.specs.declared.few.Few.{Few}
use Rattle.theorems_at_types.specs.declared.few.Tall.{Tall}

-- The collection has just these items.
abbrev pub HoldsItems : {T : Type 0} → Few T → List T → Type 0
HoldsItems c l = c.items.items ≡ l

-- The collection has just these items.
abbrev pub TallHolds : {T : Type 0} → Tall T → List T → Type 0
TallHolds c l = c.items.items ≡ l
