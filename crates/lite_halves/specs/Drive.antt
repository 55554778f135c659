-- Lists of calls that are made one after the other, until an allocation fails.
use Rattle.std.specs.Prelude.{◌≡◌, ◌<◌, ℕ, List, [], ◌∷◌, ◌++◌, length, slice_index_or, Option, Some, None, Result, Ok, Err}
use Rattle.lite_halves.specs.Uses.{AllocError, ReadMark, WriteMark, Runs}
use Rattle.lite_halves.specs.declared.entry.Answer.{Answer}
use Rattle.lite_halves.specs.declared.entry.Call.{Call}
use Rattle.lite_halves.specs.Entry.{Note, Request, Told, asked_of, told_of}
use Rattle.lite_halves.specs.Journal.{Adds, AddsAll, AsksMemory, Chronicle}

-- Each call paired with its result, up to the end of the shorter list.
abbrev pub pairs : List Request → List Told → List Note
pairs [] ts = []
pairs (a ∷ rest) [] = []
pairs (a ∷ rest) (t ∷ ts) = record { asked = a; told = t } ∷ pairs rest ts

-- If the value is `Ok`, all calls have results. After an allocation failure fewer have.
abbrev pub CallsAnswered : Result (Unit {0}) AllocError → List Request → List Told → Type 0
CallsAnswered (Ok u) asked told = length told ≡ length asked
CallsAnswered (Err e) asked told = length told < length asked

-- The calls were made in order until an allocation failed. Their results were appended to those in `before`. The calls
-- with their results are the entries that were added, in order.
abbrev pub Drives : {T : Type 0} → Runs ReadMark T → Runs WriteMark T → Chronicle T → List Request → List Told
    → Result (Unit {0}) AllocError → Chronicle T → List Told → Type 0
Drives reads writes a asked before r b after =
    (told : List Told) × (after ≡ before ++ told) × CallsAnswered r asked told
    × AddsAll reads writes a (pairs asked told) b

-- The call at the index `i` allocates memory.
abbrev pub AsksAt : {T : Type 0} → Chronicle T → List Call → ℕ → Type 0
AsksAt j calls i = (d : Call) → AsksMemory j (asked_of (slice_index_or calls i d))

-- The call was made, and its entry added. Or its allocation failed, and nothing changed.
abbrev pub AddsOrNone : {T : Type 0} → Runs ReadMark T → Runs WriteMark T → Chronicle T → Request → Option Answer
    → Chronicle T → Type 0
AddsOrNone reads writes a asked (Some answer) b = Adds reads writes a (record { asked = asked; told = told_of answer }) b
AddsOrNone reads writes a asked None b = (b ≡ a) × AsksMemory a asked
