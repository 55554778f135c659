-- `empty`: every poll returns the end of the stream.
use Rattle.std.specs.Prelude.{◌≡◌}
use Rattle.lite_source.specs.Uses.{Answer, end, Runs}
use Rattle.lite_source.specs.Always.{Unchanging}

-- Every result is the end of the stream.
abbrev pub GivesEnds : {S A : Type 0} → Runs (Answer A) S
GivesEnds = Unchanging (λ _ a. a ≡ end)
