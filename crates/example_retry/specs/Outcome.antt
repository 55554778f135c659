-- The value of a retry: what its attempts came to.
use Rattle.std.specs.Prelude.{◌≡◌, ◌≤◌, ◌+◌, ℕ, List, [], ◌∷◌, Result, Ok, Err, IfErr, length}
use Rattle.std.specs.Fn.{Called, Mut}
use Rattle.futures_lite.specs.Answers.{Poll}
use Rattle.futures_lite.specs.Futures.{Finishes}
use Rattle.futures_lite.specs.Lists.{HasValue}
use Rattle.futures_lite.specs.Own.{Runs}

-- The first `Ok` among this result and those of the list, or the last of all if each is an `Err`.
abbrev pub first_ok : {A E : Type 0} → Result A E → List (Result A E) → Result A E
first_ok r [] = r
first_ok (Ok a) (r ∷ rs) = Ok a
first_ok (Err e) (r ∷ rs) = first_ok r rs

module _ {V M A E : Type 0} (call : Mut M (ℕ × Unit {0}) V) (run : Runs (Poll (Result A E)) V) where
  -- The closure `p`, called with this number, made a future whose value was `r`.
  abbrev pub AttemptReturns : M → ℕ → Result A E → M → Type 0
  AttemptReturns p number r q =
      (v : V) × (ins : List (Poll (Result A E))) × Called call p (number, tt) v q × Finishes run v ins r

  -- The attempts from this number on failed with these errors.
  abbrev pub AttemptsFail : M → ℕ → List E → M → Type 0
  AttemptsFail p number [] q = q ≡ p
  AttemptsFail p number (e ∷ errors) q = (m : M) × AttemptReturns p number (Err e) m × AttemptsFail m (number + 1) errors q

  -- The attempts from number 0 on failed with `errors`, and the next one had the value `r`. If that is an error, all
  -- attempts were made.
  pub record Outcome (make : M) (retries : ℕ) (r : Result A E) : Type 0 where
    pub errors : List E
    pub after : M
    pub left : M
    pub failed : AttemptsFail make 0 errors after
    pub decides : AttemptReturns after (length errors) r left
    pub within : length errors ≤ retries
    pub all_made : IfErr r (λ _. length errors ≡ retries)

  -- The closure acts as a function: a call leaves it as it was, and makes a future whose value `h` says.
  abbrev pub MakesValues : M → (ℕ → Result A E) → Type 0
  MakesValues make h =
      (number : ℕ) (v : V) (q : M) → Called call make (number, tt) v q → (q ≡ make) × HasValue run v (h number)
