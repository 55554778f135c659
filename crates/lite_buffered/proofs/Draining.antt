-- What a flush of the buffer does.
use Rattle.std.specs.Prelude.{◌≡◌, ℕ, ◌+◌, ◌-◌, ◌≤◌, ◌<◌, List, [], ◌∷◌, ◌++◌, length, take, drop, slice_range, Ok, Err}
use Rattle.lite_buffered.specs.Uses.{◌∙◌, inr, refl, sym, ap, subst, arith, length-take-le, drop-take, boxed_slice_items, ErrorKind, Interrupted}
use Rattle.lite_buffered.specs.Uses.{WriteZero, Ready, Pending, MarkLaws, WriteMark, write_marks, Runs}
use Rattle.lite_io_base.specs.Laws.Runs.{offered_marks}
use Rattle.std.proofs.lemmas.List.{length-take, drop-append-le}
use Rattle.lite_buffered.specs.declared.buf_writer.BufWriter.{BufWriter}
use Rattle.lite_buffered.specs.BufWriter.{FlushesBuffer, IsFault, TakesHeld, WriterAnswers, WriterSegment, unwritten}
use Rattle.lite_buffered.specs.BufWriter.{writer_capacity}
use Rattle.lite_buffered.proofs.Ranges.{length-slice_range, slice_range_split}

-- a range is the rest of the front
pub range_of_front : (xs : List ℕ) (i j : ℕ) → i ≤ j → slice_range xs i j ≡ drop i (take j xs)
range_of_front xs i j within =
    let len : j ≡ i + (j - i) = omega arith in
    sym (ap (λ k. drop i (take k xs)) len ∙ drop-take i (j - i) xs)

-- bytes put behind a front stand behind each of its ranges
pub range_more : (xs ys bytes : List ℕ) (i j : ℕ) → i ≤ j → j ≤ length xs
    → take (j + length bytes) ys ≡ take j xs ++ bytes
    → slice_range ys i (j + length bytes) ≡ slice_range xs i j ++ bytes
range_more xs ys bytes i j within fits is =
    range_of_front ys i (j + length bytes) (omega arith) ∙ ap (drop i) is
    ∙ drop-append-le i (take j xs) bytes (omega (arith, length-take j xs))
    ∙ ap (λ l. l ++ bytes) (sym (range_of_front xs i j within))

pub length-held : {W : Type 0} (x : BufWriter W) → length (unwritten x) ≡ x.len - x.written
length-held x = length-slice_range (boxed_slice_items x.buf) x.written x.len x.in_range.0 x.in_range.1

pub held_same : {W : Type 0} (x y : BufWriter W) → y.buf ≡ x.buf → y.written ≡ x.written → y.len ≡ x.len
    → unwritten y ≡ unwritten x
held_same x y buf written len = rw (buf, written, len) refl

-- what the writes of a flush did so far
pub record Draining {W : Type 0} (writes : Runs WriteMark W) (x y : BufWriter W) (n : ℕ) : Type 0 where
  pub taken : List WriteMark
  pub ran : writes x.inner taken y.inner
  pub drains : TakesHeld (unwritten x) taken (unwritten y) n
  pub buf : y.buf ≡ x.buf
  pub len : y.len ≡ x.len
  pub few : n ≤ 16

module _ {W : Type 0} (writes : Runs WriteMark W) (laws : MarkLaws writes) where
  pub drain_none : (x : BufWriter W) → Draining writes x x 0
  drain_none x =
      record {
        taken = [];
        ran = laws.rests x.inner;
        drains = TakesHeld.none;
        buf = refl;
        len = refl;
        few = omega arith;
      }

  -- some held bytes were taken
  pub drain_some : (x y z : BufWriter W) (n k : ℕ) → Draining writes x y n
      → writes y.inner (write_marks (Ready (Ok k)) (unwritten y)) z.inner
      → 0 < k → k ≤ length (unwritten y) → z.buf ≡ y.buf → z.written ≡ y.written + k → z.len ≡ y.len
      → Draining writes x z 0
  drain_some x y z n k d ran some fits buf written len =
      let within : y.written + k ≤ y.len = omega (arith, length-held y, y.in_range.0) in
      let next : slice_range (boxed_slice_items y.buf) (y.written + k) y.len ≡ unwritten z =
      rw (buf, written, len) refl in
      let cut : unwritten y ≡ take k (unwritten y) ++ unwritten z =
      slice_range_split (boxed_slice_items y.buf) y.written y.len k within ∙ ap (λ l. take k (unwritten y) ++ l) next in
      let front = take k (unwritten y) in
      let took = subst (λ l. writes y.inner l z.inner) (offered_marks k (unwritten y) (omega (arith, some, fits))) ran in
      record {
        taken = d.taken ++ WriteMark.wrote front ∷ [];
        ran = laws.follows x.inner y.inner z.inner d.taken (WriteMark.wrote front ∷ []) d.ran took;
        drains = TakesHeld.some d.taken front (unwritten z) n
            (subst (λ l. TakesHeld (unwritten x) d.taken l n) cut d.drains)
            (omega (arith, length-take-le k (unwritten y) fits));
        buf = buf ∙ d.buf;
        len = len ∙ d.len;
        few = omega arith;
      }

  -- an interruption was passed over
  pub drain_interrupted : (x y z : BufWriter W) (n : ℕ) → Draining writes x y n
      → writes y.inner (WriteMark.fault Interrupted ∷ []) z.inner
      → y.written < y.len → n < 16 → z.buf ≡ y.buf → z.written ≡ y.written → z.len ≡ y.len → Draining writes x z (n + 1)
  drain_interrupted x y z n d ran more few buf written len =
      let same : unwritten z ≡ unwritten y = rw (buf, written, len) refl in
      record {
        taken = d.taken ++ WriteMark.fault Interrupted ∷ [];
        ran = laws.follows x.inner y.inner z.inner d.taken (WriteMark.fault Interrupted ∷ []) d.ran ran;
        drains = rw same (TakesHeld.interrupted d.taken (unwritten y) n d.drains (omega (arith, length-held y)) few);
        buf = buf ∙ d.buf;
        len = len ∙ d.len;
        few = omega arith;
      }

  segment_of : (x y z : BufWriter W) (n : ℕ) (last : List WriteMark) (told : WriteMark) → (d : Draining writes x y n)
      → WriterAnswers n (unwritten y) last told (unwritten z)
      → WriterSegment (unwritten x) (d.taken ++ last) told (unwritten z)
  segment_of x y z n last told d answers =
      record {
        drained = d.taken;
        last = last;
        cut = refl;
        left = unwritten y;
        interruptions = n;
        drains = d.drains;
        answers = answers;
      }

  -- the inner writer waits
  pub drain_waits : (x y z : BufWriter W) (n : ℕ) → Draining writes x y n
      → writes y.inner (WriteMark.pending ∷ []) z.inner → y.written < y.len
      → writer_capacity z ≡ writer_capacity y → unwritten z ≡ unwritten y → FlushesBuffer writes x Pending z
  drain_waits x y z n d ran more capacity same =
      record {
        taken = d.taken ++ WriteMark.pending ∷ [];
        ran = laws.follows x.inner y.inner z.inner d.taken (WriteMark.pending ∷ []) d.ran ran;
        capacity = capacity ∙ ap (λ b. length (boxed_slice_items b)) d.buf;
        empties = (
          segment_of x y z n (WriteMark.pending ∷ []) WriteMark.pending d (refl, same),
          omega (arith, length-held y, ap length same),
        );
      }

  -- the inner writer fails
  pub drain_fails : (x y z : BufWriter W) (n : ℕ) (last : List WriteMark) (kind : ErrorKind) (w : W)
      → Draining writes x y n → writes y.inner last w → z.inner ≡ w
      → y.written < y.len → IsFault n (unwritten y) last kind → writer_capacity z ≡ writer_capacity y
      → unwritten z ≡ unwritten y → FlushesBuffer writes x (Ready (Err kind)) z
  drain_fails x y z n last kind w d ran inner more fault capacity same =
      record {
        taken = d.taken ++ last;
        ran = rw inner (laws.follows x.inner y.inner w d.taken last d.ran ran);
        capacity = capacity ∙ ap (λ b. length (boxed_slice_items b)) d.buf;
        empties = (
          segment_of x y z n last (WriteMark.fault kind) d (fault, same),
          omega (arith, length-held y, ap length same),
        );
      }

  -- the inner writer takes none of what it is offered
  pub drain_zero : (x y z : BufWriter W) (n k : ℕ) (kind : ErrorKind) (w : W) → Draining writes x y n → k ≡ 0
      → writes y.inner (write_marks (Ready (Ok k)) (unwritten y)) w → z.inner ≡ w → y.written < y.len → kind ≡ WriteZero
      → writer_capacity z ≡ writer_capacity y → unwritten z ≡ unwritten y → FlushesBuffer writes x (Ready (Err kind)) z
  drain_zero x y z n k kind w d zero ran inner more is capacity same =
      let some : 0 < length (unwritten y) = omega (arith, length-held y, more) in
      let none = offered_marks k (unwritten y) some ∙ ap (λ j. WriteMark.wrote (take j (unwritten y)) ∷ []) zero in
      drain_fails x y z n (WriteMark.wrote [] ∷ []) kind w d (subst (λ l. writes y.inner l w) none ran) inner more
      (inr (refl, is, some)) capacity same
