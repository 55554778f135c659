-- Which arguments are a request, and what they ask for.
use Rattle.std.specs.Prelude.{◌≡◌, ◌≤◌, ⊤, ℕ, ℤ, pos, negsuc, ◌≤ℤ◌, List, ◌∷◌, length, map, All, codes, decimal, Some}
use Rattle.std.specs.Prelude.{None}
use Rattle.std.specs.Fmt.{signed_decimal}
use Rattle.futures.specs.declared.task.Poll.TheVariants.{Ready, Pending}
use Rattle.lite_base.specs.Answers.{Answer}
use Rattle.pollrun.specs.Spelling.{spelled_list}
use Rattle.pollrun.specs.declared.request.Single.TheVariants.{Plain, Double, Evens, Take2, Step2}
use Rattle.pollrun.specs.declared.request.Paired.TheVariants.{Chain, Or, Zip}
use Rattle.pollrun.specs.declared.request.Pipe.{Pipe}
use Rattle.pollrun.specs.declared.request.Pipe.TheVariants.{One, Two}

-- The number has at most six digits.
abbrev pub IsShort : ℤ → Type 0
IsShort z = (negsuc 999998 ≤ℤ z) × (z ≤ℤ pos 999999)

-- The result may be written in a script: if it is a number, that has at most six digits.
abbrev pub IsWritten : Answer ℤ → Type 0
IsWritten Pending = ⊤
IsWritten (Ready None) = ⊤
IsWritten (Ready (Some z)) = IsShort z

-- One to 1000 results that may be written in a script.
pub record IsScript (answers : List (Answer ℤ)) : Type 0 where
  pub some : 1 ≤ length answers
  pub few : length answers ≤ 1000
  pub each : All IsWritten answers

-- The word that names a pipe.
abbrev pub name_of : Pipe → List ℕ
name_of (One Plain) = codes "plain"
name_of (One Double) = codes "double"
name_of (One Evens) = codes "evens"
name_of (One Take2) = codes "take2"
name_of (One Step2) = codes "step2"
name_of (Two Chain) = codes "chain"
name_of (Two Or) = codes "or"
name_of (Two Zip) = codes "zip"

-- How many scripts a pipe takes.
abbrev pub scripts_of : Pipe → ℕ
scripts_of (One pipe) = 1
scripts_of (Two pipe) = 2

-- The words are a pipe's name, a number of polls up to 1000, and as many scripts as the pipe takes, each in its one
-- spelling.
pub record IsRequest (words : List (List ℕ)) (pipe : Pipe) (polls : ℕ) (scripts : List (List (Answer ℤ))) : Type 0 where
  pub written : words ≡ name_of pipe ∷ decimal polls ∷ map (spelled_list signed_decimal) scripts
  pub few_polls : polls ≤ 1000
  pub as_many : length scripts ≡ scripts_of pipe
  pub are_scripts : All IsScript scripts
