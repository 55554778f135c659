-- What is known in advance of the bytes that a reader will produce.
use Rattle.std.specs.Prelude.{◌≡◌, ℕ, List, [], ◌∷◌}
use Rattle.lite_io_base.specs.Uses.{Runs}
use Rattle.lite_io_base.specs.Marks.{ReadMark}

-- If the bytes `xs` are to come, these marks can come, and `ys` are left. Bytes come from the front, a `Pending` may
-- come anywhere, end of file only when no byte is left, and no error comes.
abbrev pub ReadsKnown : Runs ReadMark (List ℕ)
ReadsKnown xs [] ys = ys ≡ xs
ReadsKnown xs (ReadMark.byte b ∷ l) ys = (rest : List ℕ) × (xs ≡ b ∷ rest) × ReadsKnown rest l ys
ReadsKnown xs (ReadMark.pending ∷ l) ys = ReadsKnown xs l ys
ReadsKnown xs (ReadMark.fault kind ∷ l) ys = ⊥
ReadsKnown xs (ReadMark.end ∷ l) ys = (xs ≡ []) × ReadsKnown xs l ys

-- What is known of the values of a reader's type. `knows` picks the values whose bytes to come are known, and `left` is
-- those bytes. All this is said of the run `told`. A clause with a `Known` requires the reader to run so (`Knows`).
pub record Known (S : Type 0) : Type 1 where
  pub told : Runs ReadMark S
  -- The values whose bytes to come are known, and that return no error.
  pub knows : S → Type 0
  -- The bytes to come.
  pub left : S → List ℕ
  pub tells : (x y : S) (l : List ReadMark) → knows x → told x l y → knows y × ReadsKnown (left x) l (left y)

-- Nothing is known of any value.
abbrev pub unknown : {S : Type 0} → Known S
unknown = record { told = λ x l y. ⊥; knows = λ x. ⊥; left = λ x. []; tells = λ x y l k h. absurd k }

-- The bytes that will come from `x` are known, and each run of the reader from `x` is one that `known` speaks of.
abbrev pub Knows : {S : Type 0} → Runs ReadMark S → Known S → S → Type 0
Knows {S} reads known x = known.knows x × ((l : List ReadMark) (y : S) → reads x l y → known.told x l y)

-- Readers whose marks are fixed in advance, such as a slice.

-- The run of a reader whose marks to come are `x`: it produces them in order, and then end of file forever. `y` is what
-- is left of them.
abbrev pub ReadsScript : Runs ReadMark (List ReadMark)
ReadsScript x [] y = y ≡ x
ReadsScript [] (m ∷ ms) y = (m ≡ ReadMark.end) × ReadsScript [] ms y
ReadsScript (t ∷ x) (m ∷ ms) y = (m ≡ t) × ReadsScript x ms y
