-- What a fill of a reader shows.
use Rattle.std.specs.Prelude.{◌≡◌, ◌<◌, ◌==◌, true, false, ℕ, List, [], ◌∷◌, length}
use Rattle.std.proofs.Common.{arith, eqb-true, refl, sym}
use Rattle.lite_io_base.specs.Marks.{filled_marks}
use Rattle.lent_frames.specs.Uses.{ReadMark, Runs}

pub none_shown : (xs : List ℕ) → true ≡ (length xs == 0) → xs ≡ []
none_shown [] e = refl
none_shown (x ∷ xs) e = absurd (omega (arith, eqb-true (length (x ∷ xs)) 0 (sym e)))

pub some_shown : (xs : List ℕ) → false ≡ (length xs == 0) → 0 < length xs
some_shown [] e = cc e
some_shown (x ∷ xs) e = omega arith

-- A fill that showed bytes left no mark.
pub no_mark : {T : Type 0} (reads : Runs ReadMark T) (xs : List ℕ) → 0 < length xs → {a b : T} → reads a (filled_marks xs) b
    → reads a [] b
no_mark reads [] some h = absurd (omega (arith, some))
no_mark reads (x ∷ xs) some h = h
