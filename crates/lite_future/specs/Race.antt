-- `race` of futures: as `or`, but in each row the random generator's next word says which future is polled first.
use Rattle.std.specs.Prelude.{◌≡◌, ℕ, List, [], ◌∷◌, map}
use Rattle.lite_future.specs.Uses.{Stream, Poll, is_first, Runs}
use Rattle.lite_base.specs.Segments.{Words}
use Rattle.lite_future.specs.Picks.{Picks}
use Rattle.lite_future.specs.declared.race.Race.{Race}

-- The generator returned one word for each row, and the rows are read in the order that these words name.
pub record FutureRaces {F G R A : Type 0} (run_first : Runs (Poll A) F) (run_second : Runs (Poll A) G)
    (stream : R → Stream)
    (x : Race F G R) (out : List (Poll A)) (y : Race F G R) : Type 0 where
  pub words : List ℕ
  pub drawn : Words (stream x.rng) words (stream y.rng)
  pub picks : Picks run_first run_second (map is_first words) x.future1 x.future2 out y.future1 y.future2

-- The runs of `race`. Without a poll everything stays as it is, the generator too.
abbrev pub FutureRacesOn : {F G R A : Type 0} → Runs (Poll A) F → Runs (Poll A) G → (R → Stream)
    → Runs (Poll A) (Race F G R)
FutureRacesOn run_first run_second stream x [] y = y ≡ x
FutureRacesOn run_first run_second stream x (c ∷ out) y = FutureRaces run_first run_second stream x (c ∷ out) y
