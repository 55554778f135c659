-- What a fill of a reader's buffer is.
use Rattle.std.specs.Prelude.{◌≡◌, ℕ, List, [], ◌∷◌, Result, Ok, Err}
use Rattle.std.specs.IoError.{error_kind}
use Rattle.std.specs.declared.io.Error.{Error}
use Rattle.futures_lite.specs.Answers.{Poll}
use Rattle.futures_lite.specs.Marks.{ReadMark, fill_marks, filled_marks}
use Rattle.futures_lite.specs.Own.{Runs}
use Rattle.example_http.specs.declared.filling.Filling.{Filling}

-- One poll fills the buffer once.
abbrev pub FillStep : {T : Type 0} → Runs ReadMark T → (T → List ℕ) → Filling T → Poll (Result (Unit {0}) Error) → Filling T
    → Type 0
FillStep reads buffer_of x r y =
    reads x.reader.now (fill_marks r (buffer_of y.reader.now)) y.reader.now × (y.reader.ghost_name ≡ x.reader.ghost_name)

-- The marks of a fill that ended: an end of file if the reader shows no byte, and none if it does. Or its error.
abbrev pub FilledUp : List ReadMark → List ℕ → Result (Unit {0}) Error → Type 0
FilledUp told shown (Ok u) = told ≡ filled_marks shown
FilledUp told shown (Err e) = told ≡ ReadMark.fault (error_kind e) ∷ []
