-- Runs of calls of which it is not known that they join: the runs of a value from elsewhere, one after another.
use Rattle.std.specs.Prelude.{◌≡◌, List, flat_map}
use Rattle.std.specs.List.{FoldsTo}
use Rattle.lite_io_base.specs.Uses.{Runs}

-- The marks are those of some runs of `run`, one after another. A type over a value whose trait is not this library's
-- says so of its calls, and has the laws by `joined_laws`.
abbrev pub Joined : {A S : Type 0} → Runs A S → Runs A S
Joined {A} run x l y = (parts : List (List A)) × FoldsTo run x parts y × (flat_map (λ (part : List A). part) parts ≡ l)
