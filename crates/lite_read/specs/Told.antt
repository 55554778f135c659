-- What a reader produced while a call was waited for, without the `Pending`s.
use Rattle.std.specs.Prelude.{◌≡◌, ◌≢◌, ◌≤◌, ◌<◌, ◌+◌, ◌⊎◌, ℕ, List, [], ◌∷◌, ◌++◌, length, Result, Ok, Err}
use Rattle.lite_read.specs.Uses.{AllByRecursion, error_kind, Error, OutOfMemory, UnexpectedEof, ReadMark, bytes}
use Rattle.lite_io_base.specs.Runs.{StandsFirst}
use Rattle.lite_read.specs.Pieces.{through_first}

-- The marks are an end of file, and the error is `UnexpectedEof`. Or they are the error itself.
abbrev pub EndsShort : List ReadMark → Error → Type 0
EndsShort last e =
    ((last ≡ ReadMark.end ∷ []) × (error_kind e ≡ UnexpectedEof)) ⊎ (last ≡ ReadMark.fault (error_kind e) ∷ [])

-- The reader produced the bytes `front`, fewer than fit into `buf`, and then an end of file or the error. They stand at
-- the start of `buf`.
pub record ToldFewer (buf : List ℕ) (told : List ReadMark) (e : Error) : Type 0 where
  pub front : List ℕ
  pub last : List ReadMark
  pub fewer : length front < length buf
  pub held : StandsFirst front buf
  pub stops : EndsShort last e
  pub cut : told ≡ bytes front ++ last

-- What `read_exact` read: the bytes that are now in `buf`, or fewer, at its front, and an error.
abbrev pub FillsUp : List ℕ → List ReadMark → Result (Unit {0}) Error → Type 0
FillsUp buf told (Ok u) = told ≡ bytes buf
FillsUp buf told (Err e) = ToldFewer buf told e

-- None of the bytes is `at`.
abbrev pub Without : ℕ → List ℕ → Type 0
Without at = AllByRecursion (λ b. b ≢ at)

-- The byte `at` is in the list once, as its last byte.
pub record EndsAtFirst (at : ℕ) (xs : List ℕ) : Type 0 where
  pub before : List ℕ
  pub without : Without at before
  pub whole : xs ≡ before ++ at ∷ []

-- A vector of the capacity `capacity` is too small for `items` and then the bytes `buffer_of` through the byte `at`.
abbrev pub VectorLacksRoom : ℕ → ℕ → List ℕ → List ℕ → Type 0
VectorLacksRoom at capacity items buffer_of = capacity < length items + length (through_first at buffer_of)

-- What `read_until` read when it appended the bytes `xs`: a piece with its delimiter, or bytes without it before the
-- end of file. The value is their number. If it is an error, the bytes have no delimiter, and the error came after
-- them. Or it is an allocation failure, if `may_refuse` allows one.
abbrev pub PieceTold : Type 0 → ℕ → List ℕ → List ReadMark → Result ℕ Error → Type 0
PieceTold may_refuse at xs told (Ok n) = (n ≡ length xs)
    × ((EndsAtFirst at xs × (told ≡ bytes xs)) ⊎ (Without at xs × (told ≡ bytes xs ++ ReadMark.end ∷ [])))
PieceTold may_refuse at xs told (Err e) = Without at xs
    × ((told ≡ bytes xs ++ ReadMark.fault (error_kind e) ∷ [])
    ⊎ (may_refuse × (told ≡ bytes xs) × (error_kind e ≡ OutOfMemory)))

-- What `read_until` read up to a limit when it appended the bytes `xs`: a piece with its delimiter; or exactly `limit`
-- bytes without it, after which nothing was read; or fewer without it before the end of file. The value is their number.
-- An error is as in `PieceTold`.
abbrev pub PieceWithin : Type 0 → ℕ → ℕ → List ℕ → List ReadMark → Result ℕ Error → Type 0
PieceWithin may_refuse limit at xs told (Ok n) = (n ≡ length xs)
    × ((EndsAtFirst at xs × (told ≡ bytes xs) × (length xs ≤ limit))
    ⊎ ((Without at xs × (told ≡ bytes xs) × (length xs ≡ limit))
    ⊎ (Without at xs × (told ≡ bytes xs ++ ReadMark.end ∷ []) × (length xs < limit))))
PieceWithin may_refuse limit at xs told (Err e) = PieceTold may_refuse at xs told (Err e) × (length xs ≤ limit)
