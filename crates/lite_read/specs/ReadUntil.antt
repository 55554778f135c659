-- The `read_until` future: a piece with its delimiter is appended to a vector.
use Rattle.std.specs.Prelude.{◌≡◌, ◌≤◌, ℕ, List, length, take, drop, vec_capacity, ◌<◌, ◌+◌, [], ◌∷◌, ◌++◌, Result, Ok, Err}
use Rattle.lite_read.specs.declared.read_until.ReadUntilFuture.{ReadUntilFuture}
use Rattle.lite_read.specs.Uses.{Error, Poll, ReadMark, Runs}
use Rattle.lite_read.specs.ReadFold.{Gathers, GathersByRoom, ReadFold}
use Rattle.lite_read.specs.Pieces.{through_first, Cut, pieces}

-- The vector of a `read_until` future: its earlier bytes stay, and the bytes read are appended.

-- The bytes read so far: those in the vector behind `start`.
abbrev pub read_of : {R : Type 0} → ReadUntilFuture R → List ℕ
read_of x = drop x.start x.buf.now.items

-- A poll keeps both references of the `read_until` future, to the reader and to the vector. It keeps the delimiter,
-- `start`, and the bytes before it, and neither the vector's length nor its capacity shrinks.
pub record UntilStays {R : Type 0} (x y : ReadUntilFuture R) : Type 0 where
  pub reader : y.reader ≡ record x.reader { now = y.reader.now }
  pub buf : y.buf ≡ record x.buf { now = y.buf.now }
  pub byte : y.byte ≡ x.byte
  pub start : y.start ≡ x.start
  pub before : take x.start y.buf.now.items ≡ take x.start x.buf.now.items
  pub grows : length x.buf.now.items ≤ length y.buf.now.items
  pub room : vec_capacity x.buf.now ≤ vec_capacity y.buf.now

-- The value of `read_until` at a cut, and the bytes that the vector keeps. A piece stays with its delimiter, and bytes
-- before end of file stay as they are. The value is how many these are. After an error the bytes read before it stay.
abbrev pub CountsPiece : ℕ → Cut → List ℕ → Result ℕ Error → List ℕ → Type 0
CountsPiece byte (Cut.piece xs) held r after = (after ≡ xs ++ byte ∷ []) × (r ≡ Ok (length after))
CountsPiece byte (Cut.last xs) held r after = (after ≡ xs) × (r ≡ Ok (length after))
CountsPiece byte Cut.nothing held r after = (after ≡ []) × (r ≡ Ok (length after))
CountsPiece byte (Cut.failed e) held r after = (after ≡ held) × (r ≡ Err e)

-- The fold of `read_until`: bytes are consumed through the delimiter. An allocation may fail if `may_refuse` is true of
-- the bytes read.
abbrev pub until_where : ℕ → (List ℕ → Type 0) → ReadFold (List ℕ) (Result ℕ Error)
until_where byte may_refuse = pieces byte may_refuse (CountsPiece byte)

-- The fold of `read_until`, in which an allocation may fail at any time if `may_refuse` is true.
abbrev pub until : ℕ → Type 0 → ReadFold (List ℕ) (Result ℕ Error)
until byte may_refuse = until_where byte (λ held. may_refuse)

-- The vector of `x` is too small for the bytes in `y`'s vector and those that `y`'s reader has buffered through the
-- delimiter.
abbrev pub UntilLacksRoom : {R : Type 0} → (R → List ℕ) → ReadUntilFuture R → ReadUntilFuture R → Type 0
UntilLacksRoom buffer_of x y =
    vec_capacity x.buf.now < length y.buf.now.items + length (through_first x.byte (buffer_of y.reader.now))

-- The run of `read_until`: the reader's marks are gathered into its vector through the delimiter. An allocation may
-- fail if `may_refuse` is true.
abbrev pub ReadsUntil : {R : Type 0} → Runs ReadMark R → Type 0 → Runs (Poll (Result ℕ Error)) (ReadUntilFuture R)
ReadsUntil reads may_refuse = Gathers (λ x. x.reader.now) read_of (λ x. until x.byte may_refuse) UntilStays reads

-- The run of `read_until`, in which an allocation fails only if the vector lacked room (`UntilLacksRoom`). While it is
-- pending, the vector's capacity does not shrink.
abbrev pub ReadsUntilByRoom : {R : Type 0} → Runs ReadMark R → (R → List ℕ)
    → Runs (Poll (Result ℕ Error)) (ReadUntilFuture R)
ReadsUntilByRoom reads buffer_of =
    GathersByRoom (λ x. x.reader.now) read_of (λ x y v. until v.byte (UntilLacksRoom buffer_of x y)) UntilStays
    (λ x y. vec_capacity x.buf.now ≤ vec_capacity y.buf.now) reads
