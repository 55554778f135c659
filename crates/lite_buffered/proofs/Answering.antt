-- What an answer leaves.
use Rattle.std.specs.Prelude.{◌≡◌, ℕ, ◌≤◌, List, [], ◌∷◌, ◌++◌, length, take, Result, Ok, Err}
use Rattle.lite_buffered.specs.Uses.{◌∙◌, inl, inr, refl, sym, ap, subst, arith, take_all, append-nil, boxed_slice_items, error_kind, Error}
use Rattle.lite_buffered.specs.Uses.{ErrorKind, Poll, Ready, Pending, MarkLaws, WriteMark, done_marks, write_marks, Runs}
use Rattle.lite_base.specs.Laws.Segments.{segments_one}
use Rattle.std.proofs.lemmas.List.{length-take}
use Rattle.lite_buffered.specs.declared.buf_writer.BufWriter.{BufWriter}
use Rattle.lite_buffered.specs.BufWriter.{Buffers, FlushesBuffer, MakesRoom, PassesOn, ShownAfter, TakesHeld}
use Rattle.lite_buffered.specs.BufWriter.{WriterAnswers}
use Rattle.lite_buffered.specs.BufWriter.{WriterSegment, buffered, unwritten, writer_capacity}
use Rattle.lite_buffered.specs.Laws.BufWriter.{balanced_one}
use Rattle.lite_buffered.proofs.Ranges.{slice_range_none}

-- nothing is in the buffer
pub shown_none : {W E : Type 0} (x m y : BufWriter W) (r : Poll (Result ℕ E)) → buffered m ≡ [] → y.buf ≡ m.buf
    → y.written ≡ m.written → y.len ≡ m.len
    → ShownAfter r x y
shown_none x m y Pending none buf written len =
    let same : buffered y ≡ buffered m = rw (buf, len) refl in inr (same ∙ none)
shown_none x m y (Ready r) none buf written len =
    let same : buffered y ≡ buffered m = rw (buf, len) refl in
    let empty : y.len ≡ 0 =
    omega (arith, ap length (same ∙ none), length-take y.len (boxed_slice_items y.buf), y.in_range.1) in
    same ∙ none ∙ sym (slice_range_none (boxed_slice_items y.buf) y.written y.len (omega (arith, empty)))

module _ {W : Type 0} (writes : Runs WriteMark W) where
  -- one answer
  buffers_one : (x y : BufWriter W) (taken : List WriteMark) (told : WriteMark) → writes x.inner taken y.inner
      → writer_capacity y ≡ writer_capacity x
      → WriterSegment (unwritten x) taken told (unwritten y) → Buffers writes x (told ∷ []) y
  buffers_one x y taken told ran capacity segment =
      record {
        taken = taken;
        ran = ran;
        capacity = capacity;
        segments = segments_one WriterSegment (unwritten x) (unwritten y) taken told segment;
        balanced = balanced_one (unwritten x) (unwritten y) taken told segment;
      }

  -- a flush of the buffer that stopped
  pub stopped_waits : (x y : BufWriter W) → FlushesBuffer writes x Pending y
      → Buffers writes x (WriteMark.pending ∷ []) y
  stopped_waits x y f = buffers_one x y f.taken WriteMark.pending f.ran f.capacity f.empties.0

  pub stopped_fails : (x y : BufWriter W) (kind : ErrorKind) → FlushesBuffer writes x (Ready (Err kind)) y
      → Buffers writes x (WriteMark.fault kind ∷ []) y
  stopped_fails x y kind f = buffers_one x y f.taken (WriteMark.fault kind) f.ran f.capacity f.empties.0

  pub room_waits : (x y : BufWriter W) (count : ℕ) → MakesRoom writes x count Pending y
      → Buffers writes x (WriteMark.pending ∷ []) y
  room_waits x y count (inl f) = stopped_waits x y f
  room_waits x y count (inr h) = absurd (cc h.1)

  pub room_fails : (x y : BufWriter W) (count : ℕ) (kind : ErrorKind) → MakesRoom writes x count (Ready (Err kind)) y
      → Buffers writes x (WriteMark.fault kind ∷ []) y
  room_fails x y count kind (inl f) = stopped_fails x y kind f
  room_fails x y count kind (inr h) = absurd (cc h.1)

  -- a flush of the buffer that stopped, and the bytes that were to pass it
  pub stops_waiting : (x y : BufWriter W) (count : ℕ) (xs : List ℕ) → MakesRoom writes x count Pending y
      → PassesOn writes x xs Pending y
  stops_waiting x y count xs (inl f) =
      record { taken = f.taken; between = y.inner; ran = f.ran; passed = inr (f.empties, refl) }
  stops_waiting x y count xs (inr h) = absurd (cc h.1)

  pub stops_failing : (x y : BufWriter W) (count : ℕ) (xs : List ℕ) (e : Error)
      → MakesRoom writes x count (Ready (Err (error_kind e))) y → PassesOn writes x xs (Ready (Err e)) y
  stops_failing x y count xs e (inl f) =
      record { taken = f.taken; between = y.inner; ran = f.ran; passed = inr (f.empties, refl) }
  stops_failing x y count xs e (inr h) = absurd (cc h.1)

  -- from m, where the flush of the buffer ended, the inner writer left these marks
  record Then (x : BufWriter W) (last : List WriteMark) (y : BufWriter W) : Type 0 where
    pub mid : BufWriter W
    pub flushed : FlushesBuffer writes x (Ready (Ok tt)) mid
    pub ran : writes mid.inner last y.inner
    pub capacity : writer_capacity y ≡ writer_capacity mid
    pub same : unwritten y ≡ unwritten mid

  pub room_capacity : (x y : BufWriter W) (count : ℕ) (r : Poll (Result (Unit {0}) ErrorKind))
      → MakesRoom writes x count r y → writer_capacity y ≡ writer_capacity x
  room_capacity x y count r (inl f) = f.capacity
  room_capacity x y count r (inr h) = ap (λ v. writer_capacity v) h.0

  module _ (laws : MarkLaws writes) where
    -- all that was held is taken, and then comes the inner writer's answer
    answered : (x y : BufWriter W) (last : List WriteMark) (told : WriteMark) → Then x last y
        → ((n : ℕ) → WriterAnswers n [] last told [])
        → Buffers writes x (told ∷ []) y
    answered x y last told t answers =
        let f = t.flushed in
        let none : unwritten y ≡ [] = t.same ∙ f.empties.2 in
        buffers_one x y (f.taken ++ last) told (laws.follows x.inner t.mid.inner y.inner f.taken last f.ran t.ran)
        (t.capacity ∙ f.capacity)
        (record {
          drained = f.taken;
          last = last;
          cut = refl;
          left = [];
          interruptions = f.empties.0;
          drains = f.empties.1;
          answers = subst (WriterAnswers f.empties.0 [] last told) (sym none) (answers f.empties.0);
        })

    waits : (x y : BufWriter W) → Then x (WriteMark.pending ∷ []) y → Buffers writes x (WriteMark.pending ∷ []) y
    waits x y t = answered x y (WriteMark.pending ∷ []) WriteMark.pending t (λ n. (refl, refl))

    fails : (x y : BufWriter W) (kind : ErrorKind) → Then x (WriteMark.fault kind ∷ []) y
        → Buffers writes x (WriteMark.fault kind ∷ []) y
    fails x y kind t =
        answered x y (WriteMark.fault kind ∷ []) (WriteMark.fault kind) t (λ n. (inl (refl, λ is. inl refl), refl))

    -- a flush or a close, which leaves this mark where it is done
    done : (mark : WriteMark) → ((n : ℕ) → WriterAnswers n [] (mark ∷ []) mark []) → (x y : BufWriter W)
        (r : Poll (Result (Unit {0}) Error)) → Then x (done_marks mark r) y → Buffers writes x (done_marks mark r) y
    done mark ok x y Pending t = waits x y t
    done mark ok x y (Ready (Err e)) t = fails x y (error_kind e) t
    done mark ok x y (Ready (Ok u)) t = answered x y (mark ∷ []) mark t ok

    passes : (x y : BufWriter W) (xs : List ℕ) (r : Poll (Result ℕ Error)) → Then x (write_marks r xs) y
        → Buffers writes x (write_marks r xs) y
    passes x y xs Pending t = waits x y t
    passes x y xs (Ready (Err e)) t = fails x y (error_kind e) t
    passes x y [] (Ready (Ok k)) t =
        answered x y (WriteMark.nothing ∷ []) WriteMark.nothing t (λ n. inr (refl, refl, refl))
    passes x y (b ∷ bs) (Ready (Ok k)) t =
        let xs = b ∷ bs in
        answered x y (WriteMark.wrote (take k xs) ∷ []) (WriteMark.wrote (take k xs)) t (λ n. inr (refl, refl, refl))

    pub then_done : (mark : WriteMark) → ((n : ℕ) → WriterAnswers n [] (mark ∷ []) mark []) → (x m y : BufWriter W)
        (r : Poll (Result (Unit {0}) Error)) → FlushesBuffer writes x (Ready (Ok tt)) m
        → writes m.inner (done_marks mark r) y.inner → writer_capacity y ≡ writer_capacity m
        → unwritten y ≡ unwritten m → Buffers writes x (done_marks mark r) y
    then_done mark ok x m y r f ran capacity same =
        done mark ok x y r (record { mid = m; flushed = f; ran = ran; capacity = capacity; same = same })

    -- where nothing is held a flush of the buffer does nothing
    flush_none : (x : BufWriter W) → unwritten x ≡ [] → FlushesBuffer writes x (Ready (Ok tt)) x
    flush_none x none =
        record {
          taken = [];
          ran = laws.rests x.inner;
          capacity = refl;
          empties = (0, subst (λ l. TakesHeld (unwritten x) [] l 0) none TakesHeld.none, none);
        }

    emptied : (x m : BufWriter W) (count : ℕ) → MakesRoom writes x count (Ready (Ok tt)) m → writer_capacity m ≤ count
        → FlushesBuffer writes x (Ready (Ok tt)) m
    emptied x m count (inl f) large = f
    emptied x m count (inr (same, is, fits)) large =
        let big : writer_capacity x ≤ count = subst (λ v. writer_capacity v ≤ count) same large in
        let none : x.len ≡ 0 = omega (arith, fits, big, length-take x.len (boxed_slice_items x.buf), x.in_range.1) in
        subst (λ v. FlushesBuffer writes x (Ready (Ok tt)) v) (sym same)
        (flush_none x (slice_range_none (boxed_slice_items x.buf) x.written x.len (omega (arith, none))))

    -- a write of as many bytes as the capacity
    pub room_then_past : (x m y : BufWriter W) (xs : List ℕ) (r : Poll (Result ℕ Error))
        → MakesRoom writes x (length xs) (Ready (Ok tt)) m
        → writer_capacity m ≤ length xs → writes m.inner (write_marks r xs) y.inner
        → writer_capacity y ≡ writer_capacity m → unwritten y ≡ unwritten m
        → Buffers writes x (write_marks r xs) y
    room_then_past x m y xs r made large ran capacity same =
        passes x y xs r (record {
          mid = m;
          flushed = emptied x m (length xs) made large;
          ran = ran;
          capacity = capacity;
          same = same;
        })

    pub passed_on : (x m y : BufWriter W) (xs : List ℕ) (r : Poll (Result ℕ Error))
        → MakesRoom writes x (length xs) (Ready (Ok tt)) m
        → writer_capacity m ≤ length xs → writes m.inner (write_marks r xs) y.inner → unwritten y ≡ unwritten m
        → PassesOn writes x xs r y
    passed_on x m y xs r made large ran same =
        let f = emptied x m (length xs) made large in
        record {
          taken = f.taken;
          between = m.inner;
          ran = f.ran;
          passed = inl ((f.empties.0, f.empties.1, same ∙ f.empties.2), ran);
        }

    -- bytes are held
    holds : (x m y : BufWriter W) (xs : List ℕ) (told : WriteMark)
        → ((n : ℕ) (left after : List ℕ) → after ≡ left ++ xs → WriterAnswers n left [] told after)
        → MakesRoom writes x (length xs) (Ready (Ok tt)) m → y.inner ≡ m.inner
        → writer_capacity y ≡ writer_capacity m → unwritten y ≡ unwritten m ++ xs → Buffers writes x (told ∷ []) y
    holds x m y xs told answers (inl f) inner capacity more =
        buffers_one x y f.taken told (rw inner f.ran) (capacity ∙ f.capacity)
        (record {
          drained = f.taken;
          last = [];
          cut = sym (append-nil f.taken);
          left = [];
          interruptions = f.empties.0;
          drains = f.empties.1;
          answers = answers f.empties.0 [] (unwritten y) (more ∙ ap (λ l. l ++ xs) f.empties.2);
        })
    holds x m y xs told answers (inr (same, is, fits)) inner capacity more =
        buffers_one x y [] told (rw (inner, same) (laws.rests x.inner)) (capacity ∙ ap (λ v. writer_capacity v) same)
        (record {
          drained = [];
          last = [];
          cut = refl;
          left = unwritten x;
          interruptions = 0;
          drains = TakesHeld.none;
          answers = answers 0 (unwritten x) (unwritten y) (more ∙ ap (λ v. unwritten v ++ xs) same);
        })

    pub room_then_hold : (x m y : BufWriter W) (xs : List ℕ) → MakesRoom writes x (length xs) (Ready (Ok tt)) m
        → y.inner ≡ m.inner
        → writer_capacity y ≡ writer_capacity m → unwritten y ≡ unwritten m ++ xs
        → Buffers writes x (write_marks (Ready (Ok (length xs))) xs) y
    room_then_hold x m y [] made inner capacity more =
        holds x m y [] WriteMark.nothing (λ n left after h. inl (refl, h ∙ append-nil left)) made inner capacity more
    room_then_hold x m y (b ∷ bs) made inner capacity more =
        let xs = b ∷ bs in
        let whole : take (length xs) xs ≡ xs = take_all (length xs) xs (omega arith) in
        holds x m y xs (WriteMark.wrote (take (length xs) xs))
        (λ n left after h. inl (refl, omega (arith, ap length whole), h ∙ ap (λ l. left ++ l) (sym whole))) made inner capacity more
