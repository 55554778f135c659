-- Readers and writers of which each `Pending` has registered the task somewhere, or has woken it.
use Rattle.std.specs.Prelude.{◌≡◌, List, [], ◌∷◌, Bool, true, false}
use Rattle.lite_io_base.specs.Uses.{Lasting, Runs}
use Rattle.lite_io_base.specs.Marks.{ReadMark}
use Rattle.lite_io_base.specs.WriteMarks.{WriteMark}

-- What `is` says of the last mark. If the list is empty, the answer is `before`.
abbrev pub last_is : {A : Type 0} → (A → Bool) → Bool → List A → Bool
last_is is before [] = before
last_is is before (m ∷ l) = last_is is (is m) l

-- Whether the mark of reading is a `Pending`.
abbrev pub is_read_pending : ReadMark → Bool
is_read_pending ReadMark.pending = true
is_read_pending m = false

-- Whether the mark of writing is a `Pending`.
abbrev pub is_write_pending : WriteMark → Bool
is_write_pending WriteMark.pending = true
is_write_pending m = false

-- What an armed reader or writer promises: each run of which the last mark is a `Pending`, as `is` says, leaves a value
-- that registers that the task is armed.
pub record ArmsMarks {S A : Type 0} (is : A → Bool) (run : Runs A S) (registers : S → Lasting → Type 0) : Type 0 where
  pub at : (x y : S) (l : List A) → last_is is false l ≡ true → run x l y → registers y Lasting.armed

-- What an `ArmedRead` promises.
abbrev pub ArmsRead : {S : Type 0} → Runs ReadMark S → (S → Lasting → Type 0) → Type 0
ArmsRead = ArmsMarks is_read_pending

-- What an `ArmedWrite` promises.
abbrev pub ArmsWrite : {S : Type 0} → Runs WriteMark S → (S → Lasting → Type 0) → Type 0
ArmsWrite = ArmsMarks is_write_pending
