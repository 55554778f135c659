-- What one read or write did, of a reader or a writer of which it is known what it yields or keeps.
use Rattle.std.specs.Prelude.{◌≡◌, ◌≤◌, ◌⊎◌, ℕ, List, [], ◌++◌, drop, length, take, ◌∷◌, ⊤}
use Rattle.lite_views.specs.Uses.{ReadMark, Runs, WriteMark}

-- One read of `n` bytes, into a buffer of this length which is `buf` then, from a reader whose bytes to come are `xs`.
-- The buffer begins with the first `n` of them, and the others, `rest`, are left. `n` is 0 only if the buffer has no
-- room or no byte is left.
abbrev pub ReadsFront : List ℕ → ℕ → ℕ → List ℕ → List ℕ → Type 0
ReadsFront xs room n buf rest =
    (n ≤ room) × (take n buf ≡ take n xs) × (rest ≡ drop n xs) × (n ≡ 0 → (room ≡ 0) ⊎ (xs ≡ []))

-- One write of `n` of the bytes `xs`, to a writer that kept `before` and then keeps `after`.
abbrev pub WritesFront : List ℕ → List ℕ → ℕ → List ℕ → Type 0
WritesFront before xs n after = (n ≤ length xs) × (after ≡ before ++ take n xs)

-- A flush or a close of a writer that kept `before`: it keeps the same bytes, `after`, and they have all arrived.
abbrev pub ArrivesAll : List ℕ → List ℕ → List ℕ → Type 0
ArrivesAll before after arrived = (after ≡ before) × (arrived ≡ before)

-- A reader that yields one byte over and over.

-- Each mark is this byte or a `Pending`, so no end of file and no error comes.
abbrev pub EachByte : ℕ → List ReadMark → Type 0
EachByte b [] = ⊤
EachByte b (ReadMark.pending ∷ l) = EachByte b l
EachByte b (ReadMark.byte x ∷ l) = (x ≡ b) × EachByte b l
EachByte b (_ ∷ l) = ⊥

-- The reader yields the byte `b` over and over: each mark of each run from it is `b` or a `Pending`.
unfoldable pub YieldsOn : {R : Type 0} → Runs ReadMark R → R → ℕ → Type 0
YieldsOn {R} reads x b = (l : List ReadMark) (y : R) → reads x l y → EachByte b l

-- A writer whose writes do not fail.

-- No mark is an error, and each write that was offered bytes took some.
abbrev pub AllAccepted : List WriteMark → Type 0
AllAccepted [] = ⊤
AllAccepted (WriteMark.fault kind ∷ l) = ⊥
AllAccepted (WriteMark.wrote [] ∷ l) = ⊥
AllAccepted (_ ∷ l) = AllAccepted l

-- No run of the writer has an error or a write that took none of the bytes that it was offered.
unfoldable pub AcceptsAll : {W : Type 0} → Runs WriteMark W → W → Type 0
AcceptsAll {W} writes x = (l : List WriteMark) (y : W) → writes x l y → AllAccepted l
