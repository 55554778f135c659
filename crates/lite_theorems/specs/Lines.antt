-- What a collection of the lines of a reader's first bytes holds, as a function of what the reader produced.
use Rattle.std.specs.Prelude.{◌≡◌, ◌==◌, ◌⊎◌, if◌then◌else◌, ℕ, zero, suc, List, [], ◌∷◌, ◌++◌, map, string_bytes, IsUtf8, Result, Ok, Err}
use Rattle.lite_theorems.specs.Uses.{Global, error_kind, Error, ErrorKind, OutOfMemory, String, Poll, Gives, Runs, TryCollectError, Source, Memory}
use Rattle.lite_theorems.specs.Uses.{ReadMark, bytes, without_return}
use Rattle.std.specs.declared.io.ErrorKind.TheVariants.{InvalidData}

-- The bytes of a line, or the kind of an error that came in its place.
abbrev pub Line : Type 0
Line = Result (List ℕ) ErrorKind

-- The lines of the marks that a reader left, with its errors in their places, up to an end of file at which no
-- line is open. A line ends at a newline, 0x0A, and is without one carriage return before that. Or it ends at the end
-- of file and keeps the carriage return. `held` is the open line's bytes so far.
abbrev pub lines_told : (held : List ℕ) → List ReadMark → List Line
lines_told held [] = []
lines_told held (ReadMark.byte b ∷ l) =
    if b == 10 then Ok (without_return held) ∷ lines_told [] l else lines_told (held ++ b ∷ []) l
lines_told held (ReadMark.pending ∷ l) = lines_told held l
lines_told held (ReadMark.fault kind ∷ l) = Err kind ∷ lines_told held l
lines_told [] (ReadMark.end ∷ l) = []
lines_told (b ∷ held) (ReadMark.end ∷ l) = Ok (b ∷ held) ∷ lines_told [] l

-- What the reader produced through its `n`-th byte, and then two ends of file. The first ends an open line, and the
-- second ends all.
abbrev pub limited : ℕ → List ReadMark → List ReadMark
limited zero l = ReadMark.end ∷ ReadMark.end ∷ []
limited (suc n) [] = []
limited (suc n) (ReadMark.byte b ∷ l) = ReadMark.byte b ∷ limited n l
limited (suc n) (m ∷ l) = m ∷ limited (suc n) l

-- Each text as a line.
abbrev pub as_lines : List (String Global) → List Line
as_lines = map (λ text. Ok (string_bytes text))

-- The error is that of the first of these lines: an error of the same kind, or `InvalidData` for a line that is not
-- UTF-8. Or it is an allocation failure.
abbrev pub StandsFor : Error → List Line → Type 0
StandsFor e [] = error_kind e ≡ OutOfMemory
StandsFor e (Ok xs ∷ l) = (error_kind e ≡ OutOfMemory) ⊎ ((error_kind e ≡ InvalidData) × ¬ IsUtf8 xs)
StandsFor e (Err kind ∷ l) = (error_kind e ≡ OutOfMemory) ⊎ (error_kind e ≡ kind)

-- What is collected of the lines of these marks. `Ok` holds all lines, whatever marks may follow. An error of the
-- reader came after the lines before it. An allocation failure holds the lines before the one that was refused.
abbrev pub CollectsOf : {C : Type 0} → (C → List (String Global) → Type 0) → List ReadMark
    → Result C (TryCollectError C (String Global) Error) → Type 0
CollectsOf holds marks (Ok c) = (texts : List (String Global)) × holds c texts
    × ((more : List ReadMark) → lines_told [] (marks ++ more) ≡ as_lines texts)
CollectsOf holds marks (Err (Source e)) =
    (texts : List (String Global)) × (rest : List Line) × (lines_told [] marks ≡ as_lines texts ++ rest)
    × StandsFor e rest
CollectsOf holds marks (Err (Memory m)) =
    (texts : List (String Global)) × (rest : List Line) × holds m.collected texts
    × (lines_told [] marks ≡ as_lines texts ++ Ok (string_bytes m.item) ∷ rest)

module _ {R C : Type 0} (reads : Runs ReadMark R) (holds : C → List (String Global) → Type 0) where
  -- The reader left these marks, and the value is what `CollectsOf` says of its first `limit` bytes. Bytes that were
  -- read ahead, `front`, come before them.
  pub record CollectsLines (front : List ℕ) (reader : R) (limit : ℕ)
      (value : Result C (TryCollectError C (String Global) Error)) : Type 0 where
    pub marks : List ReadMark
    pub later : R
    pub told : reads reader marks later
    pub collects : CollectsOf holds (limited limit (bytes front ++ marks)) value

-- Whenever a run of the future `x` ends with a value, `P` holds of that value.
abbrev pub AtEachValue : {F V : Type 0} → Runs (Poll V) F → F → (V → Type 0) → Type 0
AtEachValue {F} {V} run x P = (out : List (Poll V)) (y : F) (v : V) → run x out y → Gives out v → P v
