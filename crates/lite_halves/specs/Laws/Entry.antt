-- Laws about entries of a journal and their marks.
use Rattle.std.specs.Prelude.{◌≡◌, ℕ, List, [], ◌∷◌, ◌++◌, length, take, Result, Ok, Err}
use Rattle.lite_halves.specs.Uses.{refl, arith, length-take-le, ap, map-append, Error, Poll, Ready, Pending, Part, moved_marks, read_marks, WriteMark, done_marks}
use Rattle.lite_halves.specs.Uses.{write_marks, CountsWithin}
use Rattle.lite_halves.specs.Entry.{AllFit, FitsCall, FitsDone, Note, done_marks_of, met, part_of, parts_in, read_note}
use Rattle.lite_halves.specs.Entry.{told_of_done, write_note}

pub parts_in-both : (es fs : List Note) → parts_in (es ++ fs) ≡ parts_in es ++ parts_in fs
parts_in-both = map-append (λ (e : Note). part_of e.asked e.told)

pub fit_both : (es fs : List Note) → AllFit es → AllFit fs → AllFit (es ++ fs)
fit_both [] fs h k = k
fit_both (e ∷ es) fs h k = (h.0, fit_both es fs h.1 k)

met_moved : (buf xs : List ℕ) → met (length buf) xs ≡ moved_marks buf xs
met_moved [] [] = refl
met_moved _ _ = refl

-- The marks of an entry are those of its call's result.
pub read_note_part : (r : Poll (Result ℕ Error)) (buf : List ℕ)
    → part_of (read_note r buf).asked (read_note r buf).told ≡ Part.reading (read_marks r buf)
read_note_part (Ready (Ok n)) buf = ap Part.reading (met_moved buf (take n buf))
read_note_part r buf = refl

pub write_note_part : (r : Poll (Result ℕ Error)) (xs : List ℕ)
    → part_of (write_note r xs).asked (write_note r xs).told ≡ Part.writing (write_marks r xs)
write_note_part (Ready (Err e)) xs = refl
write_note_part (Ready (Ok n)) [] = refl
write_note_part (Ready (Ok n)) (x ∷ xs) = refl
write_note_part Pending xs = refl

-- The same, of a flush or a close.
pub done_note_part : (mark : WriteMark) (r : Poll (Result (Unit {0}) Error))
    → Part.writing (done_marks_of mark (told_of_done r)) ≡ Part.writing (done_marks mark r)
done_note_part mark (Ready (Err e)) = refl
done_note_part mark _ = refl

-- The result is one that its call may have.
pub read_note_fits : (r : Poll (Result ℕ Error)) (buf : List ℕ) → CountsWithin r (length buf)
    → FitsCall (read_note r buf).asked (read_note r buf).told
read_note_fits (Ready (Ok n)) buf within = omega (arith, within, length-take-le n buf within)
read_note_fits r buf within = tt

pub write_note_fits : (r : Poll (Result ℕ Error)) (xs : List ℕ) → CountsWithin r (length xs)
    → FitsCall (write_note r xs).asked (write_note r xs).told
write_note_fits (Ready (Ok n)) xs within = within
write_note_fits r xs within = tt

pub done_fits : (r : Poll (Result (Unit {0}) Error)) → FitsDone (told_of_done r)
done_fits (Ready (Err e)) = tt
done_fits _ = tt
