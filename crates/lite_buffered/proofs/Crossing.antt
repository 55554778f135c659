-- The poll in which a `Chain` goes on to its second reader.
use Rattle.std.specs.Prelude.{◌≡◌, ◌<◌, ◌≤◌, ℕ, List, [], ◌∷◌, true, false, length, Result}
use Rattle.lite_buffered.specs.Uses.{refl, arith, Error, IoSliceMut, Poll, CountsWithin, ReadMark, moved_marks}
use Rattle.lite_buffered.specs.Uses.{read_marks, MarkLaws, ReadsInto, room_in, Runs, bytes}
use Rattle.lite_io_base.specs.Laws.Runs.{in_room, within_more}
use Rattle.lite_buffered.specs.declared.chain.Chain.{Chain}
use Rattle.lite_buffered.specs.Chain.{ChainsReaders, EndlessMarks}

module _ {R S : Type 0} (first : Runs ReadMark R) (second : Runs ReadMark S) (x y : Chain R S) (l : List ReadMark) where
  pub crossed : MarkLaws first → x.has_ended ≡ false → y.has_ended ≡ true → first x.first (ReadMark.end ∷ []) y.first
      → second x.second l y.second → ChainsReaders first second x l y
  crossed laws fresh ended h k =
      let rest = laws.rests x.first in
      rw (fresh, ended) (record {
        before = [];
        after = l;
        cut = refl;
        no_end = tt;
        between = x.first;
        first_ran = rest;
        first_ended = h;
        second_ran = k;
      })

-- an end where there was room
pub moved_end : (buf : List ℕ) → 0 < length buf → moved_marks buf [] ≡ ReadMark.end ∷ []
moved_end (b ∷ buf) some = refl
moved_end [] some = absurd (omega (arith, some))

-- a read that counts at most so much is one into any buffers that have no less room
pub reads_wide : {S : Type 0} (run : Runs ReadMark S) (old new : S) (r : Poll (Result ℕ Error)) (buf : List ℕ) (room : ℕ)
    → 0 < length buf → 0 < room → CountsWithin r (length buf) → CountsWithin r room → run old (read_marks r buf) new
    → (wide : List IoSliceMut) → room ≤ room_in wide → ReadsInto run old r wide new
reads_wide run old new r buf room some has within fits ran wide less =
    let b = in_room r buf (room_in wide) some (omega (arith, has, less)) within (within_more r room _ less fits) in
    (b.0, b.1, rw b.2 ran)

-- Marks without an end.

pub no_end_bytes : (xs : List ℕ) → EndlessMarks (bytes xs)
no_end_bytes [] = tt
no_end_bytes (x ∷ xs) = (λ e. cc e, no_end_bytes xs)

pub no_end_moved : (room xs : List ℕ) → 0 < length xs → EndlessMarks (moved_marks room xs)
no_end_moved room [] some = absurd (omega (arith, some))
no_end_moved room (x ∷ xs) some = no_end_bytes (x ∷ xs)
