-- `try_zip`: as `zip`, until the first row with an error, which is the result.
use Rattle.std.specs.Prelude.{◌≡◌, ◌+◌, ◌⊎◌, ℕ, List, length, Result, Ok, Err}
use Rattle.lite_future.specs.Uses.{Poll, Gives, Runs}
use Rattle.lite_future.specs.Side.{Stands}
use Rattle.lite_future.specs.Together.{Together}
use Rattle.lite_future.specs.declared.side.Side.{Side}
use Rattle.lite_future.specs.declared.side.Side.TheVariants.{Asked}

-- The pair of the two values if both are `Ok`, and otherwise the error, the first one's if both failed.
abbrev pub try_pair : {A B E : Type 0} → Result A E → Result B E → Result (A × B) E
try_pair (Ok v) (Ok w) = Ok (v, w)
try_pair (Ok v) (Err e) = Err e
try_pair (Err e) b = Err e

-- One future fails in the last row, and its error is the last result. It is kept as it was left. The other future has
-- results, or its value, in each row, or in each except the last `unasked` rows.
pub record Fails {F G A B C E : Type 0} (run : Runs (Poll (Result A E)) F) (run_other : Runs (Poll (Result B E)) G)
    (unasked : ℕ)
    (x : Side F A) (u : Side G B) (out : List (Poll (Result C E))) (y : Side F A) (v : Side G B) : Type 0 where
  pub before : F
  pub was_asked : x ≡ Asked before
  pub ins : List (Poll (Result A E))
  pub error : E
  pub failed : Gives ins (Err error) × (length ins ≡ length out)
  pub last : F
  pub came : run before ins last
  pub is_kept : y ≡ Asked last
  pub others : List (Poll (Result B E))
  pub stands : Stands Ok run_other u others v
  pub asked : length others + unasked ≡ length out
  pub gives : Gives out (Err error)

-- No future fails, and the results are those of `zip`. Or the first one fails, and in that row the second is not
-- polled. Or the second one fails.
abbrev pub TryZips : {F G A B E : Type 0} → Runs (Poll (Result A E)) F → Runs (Poll (Result B E)) G
    → Side F A → Side G B → List (Poll (Result (A × B) E)) → Side F A → Side G B → Type 0
TryZips run_first run_second x u out y v =
    Together Ok Ok try_pair run_first run_second x u out y v
    ⊎ (Fails run_first run_second 1 x u out y v ⊎ Fails run_second run_first 0 u x out v y)
