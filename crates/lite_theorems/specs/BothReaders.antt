-- A reader that was read up to its end or an error, and two such readers that are alike.
use Rattle.std.specs.Prelude.{◌≡◌, ◌<◌, ◌+◌, ◌++◌, ℕ, List, length, Result, Ok, Err, ⊤}
use Rattle.lite_theorems.specs.Uses.{error_kind, Error, OutOfMemory, ReadMark, bytes, strip_marks, Appended, next_read, SameByKind, Runs}

-- The reader produced these bytes, with `Pending`s among them. Then came the end of file or the error that is the
-- value, or the value is an allocation failure, if `may_refuse` allows one.
pub record ReadsUp {R : Type 0} (may_refuse : Type 0) (reads : Runs ReadMark R) (x : R) (xs : List ℕ)
    (v : Result ℕ Error) (x' : R) : Type 0 where
  pub told : List ReadMark
  pub last : List ReadMark
  pub came : reads x told x'
  pub cut : strip_marks told ≡ bytes xs ++ last
  pub value : Appended may_refuse 0 xs last v

-- A vector of the capacity `capacity` is too small for `items`, of which the last `n` were read, and for the next read.
abbrev pub LacksNext : ℕ → List ℕ → ℕ → Type 0
LacksNext capacity items n = capacity < length items + next_read 0 n

-- The value is not an allocation failure.
abbrev pub HasReadMemory : Result ℕ Error → Type 0
HasReadMemory (Ok n) = ⊤
HasReadMemory (Err e) = error_kind e ≡ OutOfMemory → ⊥

-- Both readers were read as `ReadsUp` says; `lacks` and `lacks_more` allow an allocation failure of the first and of
-- the second. They have one value and the same bytes if no allocation failed in either, or if the readers need no
-- memory and neither value is an allocation failure. Two errors are one value if they are of one kind.
pub record BothRead {R : Type 0} (reads ample : Runs ReadMark R) (needs_none lacks lacks_more : Type 0) (x : R)
    (xs : List ℕ) (v : Result ℕ Error) (x' : R)
    (y : R) (ys : List ℕ) (w : Result ℕ Error) (y' : R) : Type 0 where
  pub first : ReadsUp lacks reads x xs v x'
  pub second : ReadsUp lacks_more reads y ys w y'
  pub found : ReadsUp ⊥ ample x xs v x' → ReadsUp ⊥ ample y ys w y' → SameByKind v w × (xs ≡ ys)
  pub always : needs_none → HasReadMemory v → HasReadMemory w → SameByKind v w × (xs ≡ ys)
