-- Lists of poll results in which no allocation failed.
use Rattle.std.specs.Prelude.{◌≡◌, ◌≢◌, List, Result, Err}
use Rattle.lite_read.specs.Uses.{error_kind, AllByRecursion, Error, OutOfMemory, Answer}
use Rattle.lite_base.specs.Answers.{item}

-- This poll result is not an error of the kind `OutOfMemory`.
abbrev pub NotRefused : {A : Type 0} → Answer (Result A Error) → Type 0
NotRefused a = (e : Error) → a ≡ item (Err e) → error_kind e ≢ OutOfMemory

-- No poll result of the list is an error of the kind `OutOfMemory`.
abbrev pub NoneRefused : {A : Type 0} → List (Answer (Result A Error)) → Type 0
NoneRefused = AllByRecursion NotRefused
