-- `pending`: every poll returns `Pending`.
use Rattle.std.specs.Prelude.{◌≡◌}
use Rattle.lite_source.specs.Uses.{Pending, Answer, Runs}
use Rattle.lite_source.specs.Always.{Unchanging}

-- Every result is `Pending`.
abbrev pub GivesPendings : {S A : Type 0} → Runs (Answer A) S
GivesPendings = Unchanging (λ _ a. a ≡ Pending)
