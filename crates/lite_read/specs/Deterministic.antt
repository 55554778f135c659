-- Futures and streams over a reader whose results depend only on the reader's bytes, errors and ends, not on when it
-- was pending.
use Rattle.std.specs.Prelude.{◌≡◌, ℕ, List, [], ◌∷◌, ◌++◌}
use Rattle.lite_read.specs.Uses.{FoldsTo, Comparable, ReadMark, bytes, NoPendingRead}
use Rattle.lite_read.specs.ReadFold.{ReadFold}

-- What `fold` makes of a list of marks depends only on the marks, up to `same` on the values. Each byte has one effect,
-- and no byte is consumed when a value is produced.
pub record IsDeterministic {M R : Type 0} (same : R → R → Type 0) (fold : ReadFold M R) : Type 0 where
  -- Consuming a byte has only one outcome.
  pub one_way : (p q r : M) (b : ℕ) → fold.takes p b q → fold.takes p b r → q ≡ r
  -- The marks that produce a value contain no `Pending`.
  pub at_once : (p q : M) (l : List ReadMark) (v : R) → fold.gives p l v q → NoPendingRead l
  -- If some marks produce a value, the fold does not consume the next byte instead.
  pub given_or_taken : (p q r : M) (l m : List ReadMark) (v : R) (b : ℕ) → fold.gives p l v q → fold.takes p b r
      → Comparable l (ReadMark.byte b ∷ m) → ⊥
  -- Two lists of marks, one a prefix of the other, produce values that are the same. They are then equal, and leave the
  -- fold in one state.
  pub one_value : (p q r : M) (l m : List ReadMark) (v w : R) → fold.gives p l v q → fold.gives p m w r → Comparable l m
      → same v w × (q ≡ r) × (l ≡ m)

-- The values that `fold` produces from marks without `Pending`s. Bytes are consumed, and then some marks produce a
-- value, and so on. Behind the last value more bytes may be consumed.
pub data MarkValues {M R : Type 0} (fold : ReadFold M R) : M → List ReadMark → List R → Type 0 where
  held : (p q : M) (xs : List ℕ) → FoldsTo fold.takes p xs q → MarkValues fold p (bytes xs) []
  next : (p m q : M) (xs : List ℕ) (last rest : List ReadMark) (v : R) (vs : List R) → FoldsTo fold.takes p xs m
      → fold.gives m last v q
      → MarkValues fold q rest vs → MarkValues fold p (bytes xs ++ (last ++ rest)) (v ∷ vs)
