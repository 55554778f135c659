-- Runs in which no allocation failed.
use Rattle.std.specs.Prelude.{◌≡◌, ◌≢◌, List, Result, Err}
use Rattle.std.specs.IoError.{error_kind}
use Rattle.std.specs.List.{AllByRecursion}
use Rattle.std.specs.declared.io.Error.{Error}
use Rattle.std.specs.declared.io.ErrorKind.TheVariants.{OutOfMemory}
use Rattle.futures.specs.declared.task.Poll.{Poll}
use Rattle.futures.specs.declared.task.Poll.TheVariants.{Ready}
use Rattle.lite_base.specs.Answers.{Gives}
use Rattle.lite_base.specs.Runs.{Runs}

-- Every run whose results meet `such` is ample.
abbrev pub AmpleWhere : {S A : Type 0} → (List A → Type 0) → Runs A S → Runs A S → Type 0
AmpleWhere {S} {A} such run ample = (x y : S) (l : List A) → such l → run x l y → ample x l y

-- The value is not an error of the kind `OutOfMemory`.
abbrev pub Unrefused : {A : Type 0} → Result A Error → Type 0
Unrefused r = (e : Error) → r ≡ Err e → error_kind e ≢ OutOfMemory

-- No result is a value that is an error of the kind `OutOfMemory`.
abbrev pub NoValueRefused : {A : Type 0} → List (Poll (Result A Error)) → Type 0
NoValueRefused {A} = AllByRecursion (λ a. (r : Result A Error) → a ≡ Ready r → Unrefused r)

-- If the results end with a value, that meets `such`.
abbrev pub GivesOnly : {A : Type 0} → (A → Type 0) → List (Poll A) → Type 0
GivesOnly {A} such l = (value : A) → Gives l value → such value
