-- Functions on lists of marks, of a reader and of a writer.
use Rattle.std.specs.Prelude.{◌≡◌, ◌<◌, ⊤, Bool, true, false, ℕ, List, [], ◌∷◌, ◌++◌, flat_map, length}
use Rattle.lite_write.specs.Uses.{filter, ReadMark, WriteMark}

-- The byte of a mark, or no byte.
abbrev pub byte_in : ReadMark → List ℕ
byte_in (ReadMark.byte b) = b ∷ []
byte_in m = []

-- The bytes that a reader produced.
abbrev pub bytes_told : List ReadMark → List ℕ
bytes_told = flat_map byte_in

-- The reader's mark is a `Pending`.
abbrev pub is_told_wait : ReadMark → Bool
is_told_wait ReadMark.pending = true
is_told_wait m = false

-- The writer's mark is a `Pending`.
abbrev pub is_taken_wait : WriteMark → Bool
is_taken_wait WriteMark.pending = true
is_taken_wait m = false

-- How many `Pending`s a reader returned.
abbrev pub waits_told : List ReadMark → ℕ
waits_told l = length (filter is_told_wait l)

-- How many `Pending`s a writer returned.
abbrev pub waits_taken : List WriteMark → ℕ
waits_taken l = length (filter is_taken_wait l)

-- Each mark is a byte or a `Pending`.
abbrev pub BytesAlone : List ReadMark → Type 0
BytesAlone [] = ⊤
BytesAlone (ReadMark.byte b ∷ l) = BytesAlone l
BytesAlone (ReadMark.pending ∷ l) = BytesAlone l
BytesAlone (m ∷ l) = ⊥

-- The reader's marks are bytes and `Pending`s, followed by `stop`, which may be empty.
pub record ReadsUpTo (told stop : List ReadMark) : Type 0 where
  pub read : List ReadMark
  pub goes_on : BytesAlone read
  pub cut : told ≡ read ++ stop

-- Each mark is a `Pending` or a write that took at least one byte.
abbrev pub TakesSome : List WriteMark → Type 0
TakesSome [] = ⊤
TakesSome (WriteMark.wrote xs ∷ l) = (0 < length xs) × TakesSome l
TakesSome (WriteMark.pending ∷ l) = TakesSome l
TakesSome (m ∷ l) = ⊥

-- The writer's marks are `Pending`s and writes that took at least one byte, followed by `last`, which may be empty.
pub record WritesUpTo (took last : List WriteMark) : Type 0 where
  pub written : List WriteMark
  pub takes_some : TakesSome written
  pub cut : took ≡ written ++ last
