-- `race`: two streams are merged, and a random generator says which is polled first in each row.
use Rattle.std.specs.Prelude.{◌≡◌, ℕ, List, [], ◌∷◌, map}
use Rattle.lite_merge.specs.Uses.{Stream, Answer, Ranks, Runs}
use Rattle.lite_base.specs.Segments.{Words, is_first}
use Rattle.lite_merge.specs.Merge.{Merges, merge_ranks}
use Rattle.lite_merge.specs.declared.race.Race.{Race}

-- Both streams' results, each through its first end, merged row by row. The generator gives one word for each row, and
-- the word says which stream is polled first.
pub record Races {S U R A : Type 0} (run : Runs (Answer A) S) (run' : Runs (Answer A) U) (stream : R → Stream)
    (x : Race S U R) (out : List (Answer A)) (y : Race S U R) : Type 0 where
  pub words : List ℕ
  pub drawn : Words (stream x.rng) words (stream y.rng)
  pub merges : Merges run run' (map is_first words) x.stream1 x.stream2 out y.stream1 y.stream2

-- The run of a `race`. With no results nothing changes, the generator included.
abbrev pub RacesOn : {S U R A : Type 0} → Runs (Answer A) S → Runs (Answer A) U → (R → Stream)
    → Runs (Answer A) (Race S U R)
RacesOn run run' stream x [] y = y ≡ x
RacesOn run run' stream x (c ∷ out) y = Races run run' stream x (c ∷ out) y

-- The rank of a `race` over two streams with ranks. It counts only if both are firm, because either stream may be
-- polled first.
abbrev pub race_ranks : {S U R : Type 0} → Ranks S → Ranks U → Ranks (Race S U R)
race_ranks r r' = merge_ranks (λ m. m.stream1) (λ m. m.stream2) r r' r.firm r'.firm
