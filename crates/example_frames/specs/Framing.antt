-- Texts that are sent as frames.
use Rattle.std.specs.Prelude.{◌≡◌, ℕ, List, map, Ok}
use Rattle.std.proofs.Common.{Bor}
use Rattle.bytes.specs.Filled.{Filled}
use Rattle.tokio_util.specs.Codec.Whole.{ReadsAll}
use Rattle.framed.specs.LengthDelimited.{gives_delimited}
use Rattle.framed.specs.declared.length_delimited.LengthDelimited.{LengthDelimited}

-- The frames that such a codec finds in these bytes are the texts, in order.
abbrev pub ReadsBack : LengthDelimited → List (Bor (List ℕ)) → List ℕ → Type 0
ReadsBack c texts xs = (frames : List Filled) → ReadsAll gives_delimited c xs (map Ok frames)
    → map (λ f. f.items) frames ≡ map (λ t. t.now) texts
