-- What is known of the bytes of a std reader or writer, and how its calls change that.
use Rattle.std.specs.Prelude.{◌≡◌, ℕ, List, [], ◌∷◌, Option, None, Some, Result, ⊤}
use Rattle.lite_bridge.specs.Uses.{Keeps, SeekMoves, ErrorKind, SeekFrom, Poll, Ready, Pending, ReadMark, NoPendingRead, NoPendingWrite, WriteMark, Runs}
use Rattle.lite_io_base.specs.Stored.{GrowsWhere}

-- If the bytes `xs` are to come, these marks can come, and `ys` are left. Bytes come from the front, end of file only
-- when no byte is left, and an error may come anywhere. No `Pending` comes.
abbrev pub SpendsBytes : Runs ReadMark (List ℕ)
SpendsBytes xs [] ys = ys ≡ xs
SpendsBytes [] (ReadMark.byte b ∷ l) ys = ⊥
SpendsBytes (x ∷ xs) (ReadMark.byte b ∷ l) ys = (b ≡ x) × SpendsBytes xs l ys
SpendsBytes xs (ReadMark.pending ∷ l) ys = ⊥
SpendsBytes xs (ReadMark.fault kind ∷ l) ys = SpendsBytes xs l ys
SpendsBytes xs (ReadMark.end ∷ l) ys = (xs ≡ []) × SpendsBytes xs l ys

-- A run by `run` from known bytes to known bytes. If the bytes are not known before, only `NoWait` is known: no mark is
-- a `Pending`.
abbrev pub WhereKnown : {M : Type 0} → (List M → Type 0) → Runs M (List ℕ) → Runs M (Option (List ℕ))
WhereKnown NoWait run None l new = NoWait l
WhereKnown NoWait run (Some xs) l None = ⊥
WhereKnown NoWait run (Some xs) l (Some ys) = run xs l ys

-- The run of a std reader. The bytes known to come are read in order (`SpendsBytes`). If none are known, no mark is a
-- `Pending`.
abbrev pub SpendsKnown : Runs ReadMark (Option (List ℕ))
SpendsKnown = WhereKnown NoPendingRead SpendsBytes

-- The run of a writer that keeps bytes: the bytes that it takes are appended to `xs`, which makes `ys`. Errors, flushes
-- and closes change nothing.
abbrev pub GainsBytes : Runs WriteMark (List ℕ)
GainsBytes = GrowsWhere (λ _. ⊤)

-- The run of a std writer. The bytes that it takes are appended to those known to be there (`GainsBytes`). If none are
-- known, no mark is a `Pending`.
abbrev pub GainsKnown : Runs WriteMark (Option (List ℕ))
GainsKnown = WhereKnown NoPendingWrite GainsBytes

-- A seek of a std seeker is never pending. At `Ok` a known position moves to the target of the seek, which is returned.
-- An error leaves a known position unchanged. Known bytes stay.
abbrev pub MovesKnown : Option ℕ → Option ℕ → Option (List ℕ) → Option (List ℕ) → SeekFrom → Poll (Result ℕ ErrorKind)
    → Type 0
MovesKnown old new bytes after pos (Ready r) = SeekMoves old new bytes pos r × Keeps bytes after
MovesKnown old new bytes after pos Pending = ⊥

-- No read failed.
abbrev pub NoFault : List ReadMark → Type 0
NoFault [] = ⊤
NoFault (ReadMark.fault kind ∷ l) = ⊥
NoFault (_ ∷ l) = NoFault l

-- The run of a std reader in which no read failed.
abbrev pub SpendsWell : Runs ReadMark (Option (List ℕ))
SpendsWell old l new = SpendsKnown old l new × NoFault l

-- The bytes of two values are both known, and equal. Two readers or writers of std behind `AssertAsync` are alike if
-- this holds.
abbrev pub SameKnown : Option (List ℕ) → Option (List ℕ) → Type 0
SameKnown None other = ⊥
SameKnown (Some xs) None = ⊥
SameKnown (Some xs) (Some ys) = xs ≡ ys

-- The bytes known to be there, or none if they are not known.
abbrev pub known_bytes : Option (List ℕ) → List ℕ
known_bytes None = []
known_bytes (Some xs) = xs
