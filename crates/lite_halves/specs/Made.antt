-- The calls that a half of a split made.
use Rattle.std.specs.Prelude.{List, [], ◌∷◌, ◌++◌, ℕ}
use Rattle.lite_halves.specs.Entry.{Note, note_of}
use Rattle.lite_halves.specs.declared.journalled.made.Link.{Link}
use Rattle.lite_halves.specs.declared.journalled.made.Link.TheVariants.{Nothing, More}

-- The calls up to and with the last one, each with its result.
abbrev pub notes_to : Link → List Note
notes_to Nothing = []
notes_to (More before entry) = before.value ++ note_of entry.value ∷ []

-- The names of the ledgers that count what the halves of a split do.

-- The names of the four ledgers of a split: one for the calls and one for the bytes of each half.
pub record Names : Type 0 where
  pub reads : ℕ
  pub got : ℕ
  pub writes : ℕ
  pub taken : ℕ
