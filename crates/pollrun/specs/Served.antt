-- What the program prints for a request.
use Rattle.std.specs.Prelude.{◌≡◌, ◌%◌, ◌==◌, ◌++◌, ℕ, ℤ, ◌+ℤ◌, Bool, true, List, [], ◌∷◌, length, map, Option, Some}
use Rattle.std.specs.Prelude.{None, unsigned_abs}
use Rattle.std.specs.Fmt.{signed_decimal}
use Rattle.std.specs.Io.KnownBytes.{Appends}
use Rattle.futures.specs.declared.task.Poll.TheVariants.{Ready, Pending}
use Rattle.lite_base.specs.Answers.{Answer, item, end, until_end}
use Rattle.lite_source.specs.Script.{GivesScript}
use Rattle.lite_base.specs.Calling.{Accepts}
use Rattle.lite_reshape.specs.Leaving.{LeavesOut}
use Rattle.pollrun.specs.Request.{IsRequest}
use Rattle.pollrun.specs.Spelling.{pair_text, spelled_list}
use Rattle.lite_reshape.specs.Chain.{Joins}
use Rattle.lite_merge.specs.Merge.{MergeRows}
use Rattle.lite_merge.specs.Zip.{Pairs}
use Rattle.lite_stream.specs.Cutting.{Cuts}
use Rattle.lite_reshape.specs.StepBy.{StepsOn}
use Rattle.lite_stream.specs.Take.{is_none_left, left_after}
use Rattle.lite_reshape.specs.Ended.{Turn}
use Rattle.lite_reshape.specs.Ended.Turn.{First}
use Rattle.pollrun.specs.declared.request.Single.{Single}
use Rattle.pollrun.specs.declared.request.Single.TheVariants.{Plain, Double, Evens, Take2, Step2}
use Rattle.pollrun.specs.declared.request.Paired.{Paired}
use Rattle.pollrun.specs.declared.request.Paired.TheVariants.{Chain, Or, Zip}
use Rattle.pollrun.specs.declared.request.Pipe.{Pipe}
use Rattle.pollrun.specs.declared.request.Pipe.TheVariants.{One, Two}

-- The same result, with its number twice as large.
abbrev pub doubled : Answer ℤ → Answer ℤ
doubled Pending = Pending
doubled (Ready None) = end
doubled (Ready (Some z)) = item (z +ℤ z)

-- The number is even.
abbrev pub is_even : ℤ → Bool
is_even z = unsigned_abs z % 2 == 0

-- What a pipe returns if its script has the results `ins`.
abbrev pub Pipes : Single → List (Answer ℤ) → List (Answer ℤ) → Type 0
Pipes Plain ins out = out ≡ ins
Pipes Double ins out = out ≡ map doubled ins
Pipes Evens ins out =
    LeavesOut (Accepts (λ (p : Unit {0}) (z : ℤ) (b : Bool) (q : Unit {0}). b ≡ is_even z)) tt ins out tt
Pipes Take2 ins out = (left : ℕ) × Cuts is_none_left left_after 2 ins out left
Pipes Step2 ins out = (left : ℕ × ℕ) × StepsOn (2, 0) ins out left

-- The items of a pipe: numbers, or pairs of numbers.
abbrev pub PipeItem : Pipe → Type 0
PipeItem (One pipe) = ℤ
PipeItem (Two Chain) = ℤ
PipeItem (Two Or) = ℤ
PipeItem (Two Zip) = ℤ × ℤ

-- How an item is printed.
abbrev pub text_of : (pipe : Pipe) → PipeItem pipe → List ℕ
text_of (One pipe) z = signed_decimal z
text_of (Two Chain) z = signed_decimal z
text_of (Two Or) z = signed_decimal z
text_of (Two Zip) pair = pair_text pair

-- As much of a script as a pipe reads: `or` reads nothing after the first end of the stream.
abbrev pub read_by : Paired → List (Answer ℤ) → List (Answer ℤ)
read_by Chain script = script
read_by Or script = until_end script
read_by Zip script = script

-- What a pipe returns if what it reads of its two scripts has the results `firsts` and `seconds`.
abbrev pub PipesTwo : (pipe : Paired) → List (Answer ℤ) → List (Answer ℤ) → List (Answer (PipeItem (Two pipe))) → Type 0
PipesTwo Chain firsts seconds out = (part : Turn) × Joins First firsts seconds out part
PipesTwo Or firsts seconds out = MergeRows (map (λ _. true) out) firsts seconds out
PipesTwo Zip firsts seconds out = (held : Option ℤ) × Pairs firsts seconds out held

-- The pipe over the scripts returns this list of results.
abbrev pub PipeAnswers : (pipe : Pipe) → List (List (Answer ℤ)) → List (Answer (PipeItem pipe)) → Type 0
PipeAnswers (One pipe) (script ∷ []) out =
    (ins rest : List (Answer ℤ)) × GivesScript script ins rest × Pipes pipe ins out
PipeAnswers (Two pipe) (first ∷ second ∷ []) out =
    (firsts seconds rest rest' : List (Answer ℤ)) × GivesScript (read_by pipe first) firsts rest
    × GivesScript (read_by pipe second) seconds rest'
    × PipesTwo pipe firsts seconds out
PipeAnswers pipe scripts out = ⊥

-- The line has as many of the pipe's results as there are polls.
pub record Prints (pipe : Pipe) (scripts : List (List (Answer ℤ))) (polls : ℕ) (line : List ℕ) : Type 0 where
  pub out : List (Answer (PipeItem pipe))
  pub answers : PipeAnswers pipe scripts out
  pub all_polls : length out ≡ polls
  pub spells : line ≡ spelled_list (text_of pipe) out ++ 10 ∷ []

-- The words are a request, and what was written is its results, one for each poll, and a newline.
pub record Served (words : List (List ℕ)) (old new : Option (List ℕ)) : Type 0 where
  pub pipe : Pipe
  pub polls : ℕ
  pub scripts : List (List (Answer ℤ))
  pub asks : IsRequest words pipe polls scripts
  pub line : List ℕ
  pub prints : Prints pipe scripts polls line
  pub written : Appends old new line
