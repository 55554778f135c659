-- Readers whose marks do not depend on when they were pending, as long as no allocation failed. The runs in which none
-- failed are the ample runs.
use Rattle.std.specs.Prelude.{List, [], ◌∷◌, ⊤, ◌≡◌, ℕ, ◌++◌, Result, Ok, Err}
use Rattle.lite_base.specs.Calm.{CalmRuns}
use Rattle.lite_io_base.specs.Uses.{Comparable, Error, Runs, error_kind}
use Rattle.lite_base.specs.Steady.{TakesNone}
use Rattle.lite_io_base.specs.Marks.{ReadMark}
use Rattle.lite_io_base.specs.Runs.{MarkLaws}
use Rattle.std.specs.declared.io.ErrorKind.TheVariants.{Interrupted}
use Rattle.lite_io_base.specs.WriteMarks.{WriteMark, bytes_taken}

-- The marks without their `Pending`s.
abbrev pub strip_marks : List ReadMark → List ReadMark
strip_marks [] = []
strip_marks (ReadMark.pending ∷ l) = strip_marks l
strip_marks (a ∷ l) = a ∷ strip_marks l

-- The reader produced just the marks `l`, if the `Pending`s are left out.
abbrev pub ToldStripped : {R : Type 0} → Runs ReadMark R → Runs ReadMark R
ToldStripped reads x l y = (told : List ReadMark) × reads x told y × (strip_marks told ≡ l)

-- No mark of reading is a `Pending`.
abbrev pub NoPendingRead : List ReadMark → Type 0
NoPendingRead [] = ⊤
NoPendingRead (ReadMark.pending ∷ l) = ⊥
NoPendingRead (_ ∷ l) = NoPendingRead l

-- Two results are both `Ok` with values that `same` relates, or both errors of one kind.
abbrev pub SameOr : {A : Type 0} → (A → A → Type 0) → Result A Error → Result A Error → Type 0
SameOr same (Ok x) (Ok y) = same x y
SameOr same (Ok x) (Err e) = ⊥
SameOr same (Err e) (Ok x) = ⊥
SameOr same (Err e) (Err f) = error_kind e ≡ error_kind f

-- Two results are both `Ok` with equal values, or both errors of one kind.
abbrev pub SameByKind : {A : Type 0} → Result A Error → Result A Error → Type 0
SameByKind = SameOr (λ x y. x ≡ y)

module _ {S : Type 0} where
  -- Readers that are alike leave the same marks in their ample runs: without `Pending`s, the marks of one are a prefix of the
  -- other's.
  abbrev pub OneListOfMarks : Runs ReadMark S → (S → S → Type 0) → Type 0
  OneListOfMarks ample alike = (x y x' y' : S) (l m : List ReadMark) → alike x y → ample x l x' → ample y m y'
      → Comparable (strip_marks l) (strip_marks m)

-- What the runs of a steady reader meet: its ample runs follow one another, and readers that are alike leave the same marks.
-- If `needs_none` holds, no call allocates, and each run is ample.
pub record SteadyReadLaws {S : Type 0} (reads ample : Runs ReadMark S) (needs_none : Type 0)
    (alike : S → S → Type 0) : Type 0 where
  pub laws : MarkLaws ample
  pub steady : OneListOfMarks ample alike
  pub found : needs_none → TakesNone reads ample

-- No run of a calm reader has a `Pending`, and each leaves a calm reader.
abbrev pub CalmReadLaws : {S : Type 0} → Runs ReadMark S → (S → Type 0) → Type 0
CalmReadLaws = CalmRuns NoPendingRead

-- Writers whose bytes do not depend on when they were pending, and writers that are never pending.

-- No mark is an error, except interruptions.
abbrev pub NoError : List WriteMark → Type 0
NoError [] = ⊤
NoError (WriteMark.fault kind ∷ l) = (kind ≡ Interrupted) × NoError l
NoError (_ ∷ l) = NoError l

-- The last mark is a flush.
abbrev pub EndsFlushed : List WriteMark → Type 0
EndsFlushed l = (before : List WriteMark) × (l ≡ before ++ WriteMark.flushed ∷ [])

-- No mark of writing is a `Pending`.
abbrev pub NoPendingWrite : List WriteMark → Type 0
NoPendingWrite [] = ⊤
NoPendingWrite (WriteMark.pending ∷ l) = ⊥
NoPendingWrite (_ ∷ l) = NoPendingWrite l

-- What the runs of a steady writer meet. Take two runs from writers that are alike, without an error, that take the
-- same bytes and end in a flush. They leave writers that are alike, and the same bytes `below`. These are the bytes
-- that have arrived once all is flushed: those of a vector or a cursor, none of a sink, and those below a buffered
-- writer.
pub record SteadyWriteLaws {S : Type 0} (writes : Runs WriteMark S) (alike : S → S → Type 0)
    (below : S → List ℕ) : Type 0 where
  pub steady : (x y x' y' : S) (l m : List WriteMark) → alike x y → writes x l x' → writes y m y' → NoError l
      → NoError m → EndsFlushed l → EndsFlushed m
      → bytes_taken l ≡ bytes_taken m → (below x' ≡ below y') × alike x' y'

-- No run of a calm writer has a `Pending`, and each leaves a calm writer.
abbrev pub CalmWriteLaws : {S : Type 0} → Runs WriteMark S → (S → Type 0) → Type 0
CalmWriteLaws = CalmRuns NoPendingWrite
