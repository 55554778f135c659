-- How the bytes of a reader are cut into pieces: at each delimiter, and at end of file.
use Rattle.std.specs.Prelude.{◌≡◌, ◌≢◌, ◌<◌, ◌⊎◌, ⊤, ℕ, List, [], ◌∷◌, ◌++◌, length, Option, Some, None, Result, Err, ◌==◌, if◌then◌else◌}
use Rattle.lite_read.specs.Uses.{error_kind, Error, OutOfMemory, ReadMark, without_return}
use Rattle.lite_read.specs.ReadFold.{ReadFold}

-- What ends a piece, with the bytes before it: a delimiter (`piece`), end of file (`last`), end of file with nothing
-- before it (`nothing`), or an error (`failed`), which cuts no piece off.
pub data Cut : Type 0 where
  piece : List ℕ → Cut
  last : List ℕ → Cut
  nothing : Cut
  failed : Error → Cut

-- The marks that cut, and the cut that they make of the bytes held. The byte `byte` or end of file cuts off the bytes
-- held. A reader's error is passed on. If `may_refuse` holds, an allocation may fail, which takes no mark.
abbrev pub CutsPiece : ℕ → Type 0 → List ℕ → List ReadMark → Cut → Type 0
CutsPiece byte may_refuse held marks (Cut.piece xs) = (marks ≡ ReadMark.byte byte ∷ []) × (xs ≡ held)
CutsPiece byte may_refuse held marks (Cut.last xs) = (marks ≡ ReadMark.end ∷ []) × (0 < length held) × (xs ≡ held)
CutsPiece byte may_refuse held marks Cut.nothing = (marks ≡ ReadMark.end ∷ []) × (held ≡ [])
CutsPiece byte may_refuse held marks (Cut.failed e) =
    (marks ≡ ReadMark.fault (error_kind e) ∷ []) ⊎ ((marks ≡ []) × may_refuse × (error_kind e ≡ OutOfMemory))

-- The fold that reads up to a cut: a byte other than the delimiter is appended to the bytes held. `becomes` says what
-- value a cut becomes, and which bytes are held then. An allocation may fail if `may_refuse` is true of the bytes held.
abbrev pub pieces : {R : Type 0} → ℕ → (List ℕ → Type 0) → (Cut → List ℕ → R → List ℕ → Type 0) → ReadFold (List ℕ) R
pieces byte may_refuse becomes =
    record {
      takes = λ held b more. (b ≢ byte) × (more ≡ held ++ b ∷ []);
      asks = λ held. ⊤;
      gives = λ held marks r after. (cut : Cut) × CutsPiece byte (may_refuse held) held marks cut
          × becomes cut held r after;
    }

-- The item that a stream of pieces yields at a cut. A piece becomes an item by `whole`, a last piece by `final`, and no
-- bytes are held then. An error is an item and keeps the bytes held. End of file with no bytes held is the end of the
-- stream.
abbrev pub Itemised : {A : Type 0} → (List ℕ → Result A Error → Type 0) → (List ℕ → Result A Error → Type 0)
    → Cut → List ℕ → Option (Result A Error) → List ℕ → Type 0
Itemised whole final (Cut.piece xs) held (Some r) after = whole xs r × (after ≡ [])
Itemised whole final (Cut.last xs) held (Some r) after = final xs r × (after ≡ [])
Itemised whole final Cut.nothing held None after = after ≡ []
Itemised whole final (Cut.failed e) held (Some r) after = (r ≡ Err e) × (after ≡ held)
Itemised whole final cut held r after = ⊥

-- The poll result at end of file: an item by `final` if bytes are held, and else the end of the stream.
abbrev pub AtEnd : {A : Type 0} → (List ℕ → Result A Error → Type 0) → List ℕ → Option (Result A Error) → Type 0
AtEnd final held (Some r) = (0 < length held) × final held r
AtEnd final held None = held ≡ []

-- How a list of bytes is split at a delimiter, and into lines.

-- The last piece, which no delimiter ends: the bytes left over as one piece, or no piece if none is left.
abbrev pub last_piece : List ℕ → List (List ℕ)
last_piece [] = []
last_piece (b ∷ held) = (b ∷ held) ∷ []

-- The pieces of some bytes. Each byte `at` ends a piece, and `h` maps its bytes. `held` is what the current piece has
-- so far. Bytes left over at the end are a last piece, which `h` does not change.
abbrev pub pieces_from : ℕ → (List ℕ → List ℕ) → List ℕ → List ℕ → List (List ℕ)
pieces_from at h held [] = last_piece held
pieces_from at h held (b ∷ bs) =
    if b == at then h held ∷ pieces_from at h [] bs else pieces_from at h (held ++ b ∷ []) bs

-- The lines of some bytes, as `lines` yields them. A newline, 0x0A, ends a line, and one 0x0D before it is removed. A
-- last line without a newline keeps its 0x0D.
abbrev pub byte_lines : List ℕ → List (List ℕ)
byte_lines bs = pieces_from 10 without_return [] bs

-- The pieces of some bytes, as `split` yields them. Each byte `at` ends a piece and is not part of it. Bytes behind the
-- last delimiter, if any, are a last piece.
abbrev pub byte_pieces : ℕ → List ℕ → List (List ℕ)
byte_pieces at bs = pieces_from at (λ xs. xs) [] bs

-- The bytes through the first byte `at`, including it, or all bytes if none is `at`.
abbrev pub through_first : ℕ → List ℕ → List ℕ
through_first at [] = []
through_first at (b ∷ bs) = b ∷ (if b == at then [] else through_first at bs)

-- The bytes after the first byte `at`, or none if no byte is `at`.
abbrev pub behind : ℕ → List ℕ → List ℕ
behind at [] = []
behind at (b ∷ bs) = if b == at then bs else behind at bs
