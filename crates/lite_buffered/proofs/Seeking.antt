-- What a seek leaves.
use Rattle.std.specs.Prelude.{◌≡◌, ℕ, List, [], ◌++◌, Result, Ok, Err, ◌<◌, ◌-ℤ◌, zero, suc, pos, FitsSigned}
use Rattle.lite_buffered.specs.Uses.{◌∙◌, inl, inr, refl, sym, ap, append-nil, ErrorKind, SeekFrom, Poll, Ready, Pending, WriteMark, bytes_taken, Runs, rules}
use Rattle.lite_buffered.specs.declared.buf_writer.BufWriter.{BufWriter}
use Rattle.lite_buffered.specs.BufWriter.{Balanced, FlushesBuffer, SeeksAfter, StopsShort, unwritten, writer_capacity}
use Rattle.lite_buffered.specs.Laws.BufWriter.{drains_balance, segment_balance}
use Rattle.std.proofs.lemmas.Int.{to_z-of_z}
use Rattle.std.proofs.Common.{w64, ℤ}
use mir.Val.{of_z, to_z}

module _ {W : Type 0} (writes : Runs WriteMark W) (seeks : W → SeekFrom → Poll (Result ℕ ErrorKind) → W → Type 0) where
  -- some of what was held is not taken
  seek_stops : (x y : BufWriter W) (to : SeekFrom) (r : Poll (Result ℕ ErrorKind)) (taken : List WriteMark)
      → writes x.inner taken y.inner → writer_capacity y ≡ writer_capacity x
      → StopsShort (unwritten x) taken r (unwritten y) → Balanced (unwritten x) [] taken (unwritten y)
      → SeeksAfter writes seeks x to r y
  seek_stops x y to r taken ran capacity stops balanced = record {
    taken = taken;
    between = y.inner;
    ran = ran;
    capacity = capacity;
    sought = inr (stops, refl);
    balanced = balanced;
  }

  pub seek_waits : (x y : BufWriter W) (to : SeekFrom) → FlushesBuffer writes x Pending y
      → SeeksAfter writes seeks x to Pending y
  seek_waits x y to f =
      seek_stops x y to Pending f.taken f.ran f.capacity f.empties
      (segment_balance (unwritten x) (unwritten y) f.taken WriteMark.pending f.empties.0)

  pub seek_fails : (x y : BufWriter W) (to : SeekFrom) (kind : ErrorKind) → FlushesBuffer writes x (Ready (Err kind)) y
      → SeeksAfter writes seeks x to (Ready (Err kind)) y
  seek_fails x y to kind f =
      seek_stops x y to (Ready (Err kind)) f.taken f.ran f.capacity f.empties
      (segment_balance (unwritten x) (unwritten y) f.taken (WriteMark.fault kind) f.empties.0)

  pub seek_follows : (x m y : BufWriter W) (to : SeekFrom) (r : Poll (Result ℕ ErrorKind))
      → FlushesBuffer writes x (Ready (Ok tt)) m
      → seeks m.inner to r y.inner → writer_capacity y ≡ writer_capacity m → unwritten y ≡ unwritten m
      → SeeksAfter writes seeks x to r y
  seek_follows x m y to r f sought capacity same =
      let none : unwritten y ≡ [] = same ∙ f.empties.2 in
      record {
        taken = f.taken;
        between = m.inner;
        ran = f.ran;
        capacity = capacity ∙ f.capacity;
        sought = inl ((f.empties.0, f.empties.1, none), sought);
        balanced = append-nil (unwritten x) ∙ drains_balance (unwritten x) [] f.taken f.empties.0 f.empties.1
            ∙ ap (λ l. bytes_taken f.taken ++ l) (sym none);
      }

-- Offsets of a seek as numbers.

pub to_z_offset : (z : ℤ) → FitsSigned w64 z → to_z w64 (of_z w64 z) ≡ z
to_z_offset z fits = to_z-of_z w64 z fits

count_fits : (k : ℕ) → k < 9223372036854775808 → FitsSigned w64 (pos k)
count_fits k small = search rules

-- an offset that is known
pub to_z_known : (z : ℤ) (k : ℕ) → z ≡ pos k → k < 9223372036854775808 → to_z w64 (of_z w64 z) ≡ pos k
to_z_known z k is small = rw is (to_z_offset (pos k) (count_fits k small))

back_fits : (k : ℕ) → k < 9223372036854775808 → FitsSigned w64 (pos 0 -ℤ pos k)
back_fits zero small = search rules
back_fits (suc k) small = search rules

pub to_z_back : (k : ℕ) → k < 9223372036854775808 → to_z w64 (of_z w64 (pos 0 -ℤ pos k)) ≡ pos 0 -ℤ pos k
to_z_back k small = to_z-of_z w64 (pos 0 -ℤ pos k) (back_fits k small)
