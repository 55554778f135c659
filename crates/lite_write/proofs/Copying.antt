-- The steps of `copy`.
use Rattle.std.specs.Prelude.{◌≡◌, ◌<◌, ◌+◌, ◌%◌, ◌^◌, ℕ, List, [], ◌∷◌, ◌++◌, Result, Ok, Err, length}
use Rattle.lite_write.specs.Uses.{◌∙◌, refl, ap, sym, subst, arith, append-nil, error_kind, Error, WriteZero, Poll}
use Rattle.lite_write.specs.Uses.{Ready, Pending, ThroughBuffer, bytes_ahead, reader_capacity, ReadMark, bytes}
use Rattle.lite_write.specs.Uses.{MarkLaws, WriteMark, bytes_taken, write_marks, offered_marks, UpToValue, strip, waits}
use Rattle.lite_write.specs.Uses.{OneStep, Runs}
use Rattle.std.proofs.lemmas.List.{map-append}
use Rattle.lite_base.specs.Laws.Answers.{up_to_one}
use Rattle.lite_buffered.specs.Laws.BufReader.{passes_some, through_laws}
use Rattle.lite_buffered.specs.declared.buf_reader.BufReader.{BufReader}
use Rattle.lite_io_base.specs.Marks.{filled_marks}
use Rattle.std.proofs.Common.{None, Option, Some}
use Rattle.lite_write.specs.Copy.{CopyValue, Moves, CopiesSome, held_of, met_in, source_of}
use Rattle.lite_write.specs.MarkLists.{BytesAlone, WritesUpTo, ReadsUpTo, bytes_told, waits_taken, waits_told}
use Rattle.lite_write.specs.Laws.Copy.{counted_none, moves_both}
use Rattle.lite_write.specs.declared.copy.CopyFuture.{CopyFuture}
use Rattle.lite_write.specs.declared.copy.Phase.{Phase}
use Rattle.lite_write.specs.declared.copy.Phase.TheVariants.{Copying, Flushing}

told_bytes : (xs : List ℕ) → bytes_told (bytes xs) ≡ xs
told_bytes [] = refl
told_bytes (x ∷ xs) = ap (λ l. x ∷ l) (told_bytes xs)

no_waits : (xs : List ℕ) → waits_told (bytes xs) ≡ 0
no_waits [] = refl
no_waits (x ∷ xs) = no_waits xs

bytes_go_on : (xs : List ℕ) → BytesAlone (bytes xs)
bytes_go_on [] = tt
bytes_go_on (x ∷ xs) = bytes_go_on xs

-- where only bytes went out, only bytes came in
all_bytes : (p : List ℕ) (came : List ReadMark) (z : List ℕ) → bytes p ++ came ≡ bytes z → (xs : List ℕ)
    × (came ≡ bytes xs) × (p ++ xs ≡ z)
all_bytes [] came z e = (z, e, refl)
all_bytes (b ∷ p) came [] e = absurd (cc e)
all_bytes (b ∷ p) came (a ∷ z) e =
    let same : b ≡ a = cc e in
    let rest : bytes p ++ came ≡ bytes z = cc e in
    let more = all_bytes p came z rest in
    (more.0, more.1, cc (same, more.2))

-- a mark that is no byte went out: it came in, and nothing was ahead
one_mark : (p : List ℕ) (came : List ReadMark) (m : ReadMark) → ((b : ℕ) → ReadMark.byte b ≡ m → ⊥)
    → bytes p ++ came ≡ m ∷ [] → (p ≡ []) × (came ≡ m ∷ [])
one_mark [] came m other e = (refl, e)
one_mark (b ∷ p) came m other e = absurd (other b (cc e))

copying_on : (a b : Phase) (came : List ReadMark) → a ≡ Copying → b ≡ Copying → BytesAlone came
    → ReadsUpTo (met_in a ++ came) (met_in b ++ [])
copying_on a b came e d on = record { read = came; goes_on = on; cut = rw (e, d) (sym (append-nil came)) }

-- a fill that lent something left no mark
fills_some : {R : Type 0} (reads : Runs ReadMark R) (x y : BufReader R) (shown : List ℕ) → 0 < length shown
    → ThroughBuffer reads x (filled_marks shown) y
    → ThroughBuffer reads x [] y
fills_some reads x y [] some h = absurd (omega (arith, some))
fills_some reads x y (b ∷ shown) some h = h

module _ {R W : Type 0} (reads : Runs ReadMark R) (writes : Runs WriteMark W) (rl : MarkLaws reads)
    (wl : MarkLaws writes) where
  module _ (x y : CopyFuture R W) where
    module _ (reader : y.reader ≡ x.reader) (amount : y.amount ≡ x.amount) (phase : y.phase ≡ x.phase) where
      unread : reads (source_of x) [] (source_of y)
      unread = subst (λ (r : BufReader R). reads (source_of x) [] r.inner) (sym reader) (rl.rests (source_of x))

      same_amount : (took : List WriteMark) → bytes_taken took ≡ []
          → y.amount ≡ (x.amount + length (bytes_taken took)) % 2 ^ 64
      same_amount took none =
          amount ∙ counted_none x.amount x.counted ∙ ap (λ l. (x.amount + length l) % 2 ^ 64) (sym none)

      -- one call of the writer, which took no byte
      writer_answers : (m : WriteMark) (a : Poll (Result ℕ Error)) (last : List WriteMark) → WritesUpTo (m ∷ []) last
          → bytes_taken (m ∷ []) ≡ []
          → waits (a ∷ []) ≡ waits_taken (m ∷ [])
          → CopyValue (strip (a ∷ [])) [] last (held_of y) (met_in y.phase) y.amount
          → writes x.writer (m ∷ []) y.writer → Moves reads writes x (a ∷ []) y
      writer_answers m a last writing none waits value went =
          record {
            told = [];
            took = m ∷ [];
            came = unread;
            went = went;
            copied = record {
              failed = [];
              last = last;
              reading = record { read = []; goes_on = tt; cut = ap (λ v. met_in v ++ []) (sym phase) };
              writing = writing;
              balanced = append-nil (held_of x) ∙ ap (λ (r : BufReader R). bytes_ahead r) (sym reader)
                  ∙ ap (λ l. l ++ held_of y) (sym none);
              waited = omega (arith, waits);
              once = up_to_one a;
              value = value;
            };
            counted = same_amount (m ∷ []) none;
          }

      -- one call of the writer, which was the last
      writer_stops : (m : WriteMark) (r : Result ℕ Error) → bytes_taken (m ∷ []) ≡ [] → waits_taken (m ∷ []) ≡ 0
          → CopyValue (r ∷ []) [] (m ∷ []) (held_of y) (met_in y.phase) y.amount → writes x.writer (m ∷ []) y.writer
          → Moves reads writes x (Ready r ∷ []) y
      writer_stops m r none no_pending value went =
          writer_answers m (Ready r) (m ∷ []) (record { written = []; takes_some = tt; cut = refl }) none
          (sym no_pending) value went

      pub writer_waits : writes x.writer (WriteMark.pending ∷ []) y.writer → Moves reads writes x (Pending ∷ []) y
      writer_waits went =
          writer_answers WriteMark.pending Pending []
          (record { written = WriteMark.pending ∷ []; takes_some = tt; cut = refl }) refl refl tt went

      pub writer_fails : (e : Error) → writes x.writer (WriteMark.fault (error_kind e) ∷ []) y.writer
          → Moves reads writes x (Ready (Err e) ∷ []) y
      writer_fails e went = writer_stops (WriteMark.fault (error_kind e)) (Err e) refl refl refl went

      pub writer_takes_none : (e : Error) → error_kind e ≡ WriteZero → 0 < length (held_of x)
          → writes x.writer (write_marks (Ready (Ok 0)) (held_of x)) y.writer
          → Moves reads writes x (Ready (Err e) ∷ []) y
      writer_takes_none e is some went =
          let held = subst (λ (r : BufReader R). 0 < length (bytes_ahead r)) (sym reader) some in
          let none = subst (λ l. writes x.writer l y.writer) (offered_marks 0 (held_of x) some) went in
          writer_stops (WriteMark.wrote []) (Err e) refl refl (is, held) none

      pub writer_is_flushed : y.phase ≡ Flushing → writes x.writer (WriteMark.flushed ∷ []) y.writer
          → Moves reads writes x (Ready (Ok y.amount) ∷ []) y
      writer_is_flushed flushing went =
          writer_stops WriteMark.flushed (Ok y.amount) refl refl (y.drained flushing, ap met_in flushing, refl) went

    -- the writer took some bytes, which were taken from the buffer
    pub writes_more : (xs : List ℕ) → 0 < length xs → x.phase ≡ Copying → y.phase ≡ Copying
        → y.amount ≡ (x.amount + length xs) % 2 ^ 64
        → ThroughBuffer reads x.reader (bytes xs) y.reader → writes x.writer (WriteMark.wrote xs ∷ []) y.writer
        → CopiesSome reads writes x y
    writes_more xs some copying still amount given went =
        let equation =
        passes_some (reader_capacity x.reader) (held_of x) given.came (bytes xs)
        (held_of y) x.buffered given.passes in
        let came = all_bytes (held_of x) given.came (xs ++ held_of y) (equation ∙ sym (map-append ReadMark.byte xs (held_of y))) in
        let all = append-nil xs in
        record {
          moves = record {
            told = given.came;
            took = WriteMark.wrote xs ∷ [];
            came = given.ran;
            went = went;
            copied = record {
              failed = [];
              last = [];
              reading = copying_on x.phase y.phase given.came copying still (rw came.1 (bytes_go_on came.0));
              writing = record { written = WriteMark.wrote xs ∷ []; takes_some = (some, tt); cut = refl };
              balanced = ap (λ l. held_of x ++ l) (ap bytes_told came.1 ∙ told_bytes came.0) ∙ came.2
                  ∙ ap (λ l. l ++ held_of y) (sym all);
              waited = omega (arith, ap waits_told came.1, no_waits came.0);
              once = tt;
              value = tt;
            };
            counted = amount ∙ ap (λ l. (x.amount + length l) % 2 ^ 64) (sym all);
          };
          taken = xs;
          some = some;
          given = given;
        }

    -- calls of the reader alone
    module _ (writer : y.writer ≡ x.writer) (amount : y.amount ≡ x.amount) (copying : x.phase ≡ Copying) where
      unwritten : writes x.writer [] y.writer
      unwritten = subst (λ w. writes x.writer [] w) (sym writer) (wl.rests x.writer)

      reader_told : (told failed : List ReadMark) (out : List (Poll (Result ℕ Error)))
          → ReadsUpTo (met_in x.phase ++ told) (met_in y.phase ++ failed)
          → held_of x ++ bytes_told told ≡ held_of y → waits out ≡ waits_told told → UpToValue out
          → CopyValue (strip out) failed [] (held_of y) (met_in y.phase) y.amount
          → reads (source_of x) told (source_of y) → Moves reads writes x out y
      reader_told told failed out reading balanced waits once value came =
          record {
            told = told;
            took = [];
            came = came;
            went = unwritten;
            copied = record {
              failed = failed;
              last = [];
              reading = reading;
              writing = record { written = []; takes_some = tt; cut = refl };
              balanced = balanced;
              waited = omega (arith, waits);
              once = once;
              value = value;
            };
            counted = amount ∙ counted_none x.amount x.counted;
          }

      -- some bytes were read, and none was taken from the buffer
      pub reads_more : y.phase ≡ Copying → ThroughBuffer reads x.reader [] y.reader → Moves reads writes x [] y
      reads_more still h =
          let equation = passes_some (reader_capacity x.reader) (held_of x) h.came [] (held_of y) x.buffered h.passes in
          let came = all_bytes (held_of x) h.came (held_of y) equation in
          let reading = copying_on x.phase y.phase h.came copying still (rw came.1 (bytes_go_on came.0)) in
          reader_told h.came [] [] reading
          (ap (λ l. held_of x ++ l) (ap bytes_told came.1 ∙ told_bytes came.0) ∙ came.2)
          (sym (ap waits_told came.1 ∙ no_waits came.0)) tt tt h.ran

      -- one mark that is no byte
      module _ (m : ReadMark) (other : (b : ℕ) → ReadMark.byte b ≡ m → ⊥) (empty : held_of y ≡ [])
          (h : ThroughBuffer reads x.reader (m ∷ []) y.reader) where
        marked : (held_of x ≡ []) × (h.came ≡ m ∷ [])
        marked =
            let equation =
            passes_some (reader_capacity x.reader) (held_of x) h.came (m ∷ []) (held_of y) x.buffered h.passes in
            one_mark (held_of x) h.came m other (equation ∙ ap (λ l. m ∷ bytes l) empty)

        reader_marks : (read failed : List ReadMark) (out : List (Poll (Result ℕ Error)))
            → m ∷ [] ≡ read ++ (met_in y.phase ++ failed) → BytesAlone read
            → bytes_told (m ∷ []) ≡ [] → waits out ≡ waits_told (m ∷ []) → UpToValue out
            → CopyValue (strip out) failed [] (held_of y) (met_in y.phase) y.amount → Moves reads writes x out y
        reader_marks read failed out cut on none waits once value =
            let came = subst (λ l. reads (source_of x) l (source_of y)) marked.1 h.ran in
            let balanced = ap (λ l. held_of x ++ l) none ∙ append-nil (held_of x) ∙ marked.0 ∙ sym empty in
            let reading : ReadsUpTo (met_in x.phase ++ m ∷ []) (met_in y.phase ++ failed) =
            record { read = read; goes_on = on; cut = ap (λ a. met_in a ++ m ∷ []) copying ∙ cut } in
            reader_told (m ∷ []) failed out reading balanced waits once value came

      pub reader_waits : y.phase ≡ Copying → held_of y ≡ []
          → ThroughBuffer reads x.reader (ReadMark.pending ∷ []) y.reader → Moves reads writes x (Pending ∷ []) y
      reader_waits still empty h =
          reader_marks ReadMark.pending (λ b e. cc (e)) empty h (ReadMark.pending ∷ []) [] (Pending ∷ [])
          (ap (λ a. ReadMark.pending ∷ (met_in a ++ [])) (sym still)) tt refl refl tt tt

      pub reader_fails : (e : Error) → y.phase ≡ Copying → held_of y ≡ []
          → ThroughBuffer reads x.reader (ReadMark.fault (error_kind e) ∷ []) y.reader
          → Moves reads writes x (Ready (Err e) ∷ []) y
      reader_fails e still empty h =
          let failed = ReadMark.fault (error_kind e) ∷ [] in
          reader_marks (ReadMark.fault (error_kind e)) (λ b d. cc (d)) empty h [] failed (Ready (Err e) ∷ [])
          (ap (λ a. met_in a ++ failed) (sym still)) tt refl refl refl (refl, ap met_in still)

      pub reader_ends : y.phase ≡ Flushing → held_of y ≡ [] → ThroughBuffer reads x.reader (ReadMark.end ∷ []) y.reader
          → Moves reads writes x [] y
      reader_ends ended empty h =
          reader_marks ReadMark.end (λ b e. cc (e)) empty h [] [] []
          (ap (λ a. met_in a ++ []) (sym ended)) tt refl refl tt tt

  -- a fill that lent something, and then the step
  module _ (x m y : CopyFuture R W) (writer : m.writer ≡ x.writer) (amount : m.amount ≡ x.amount)
      (copying : x.phase ≡ Copying) (still : m.phase ≡ Copying)
      (fills : ThroughBuffer reads x.reader (filled_marks (held_of m)) m.reader) where
    pub then_steps : 0 < length (held_of m) → (r : Option (Poll (Result ℕ Error)))
        → OneStep (CopiesSome reads writes) (λ v a w. Moves reads writes v (a ∷ []) w) m r y
        → OneStep (CopiesSome reads writes) (λ v a w. Moves reads writes v (a ∷ []) w) x r y
    then_steps some None t =
        let h = fills_some reads x.reader m.reader (held_of m) some fills in
        record {
          moves = moves_both rl wl x m y [] [] tt (reads_more x m writer amount copying still h) t.moves;
          taken = t.taken;
          some = t.some;
          given = (through_laws rl).follows x.reader m.reader y.reader [] (bytes t.taken) h t.given;
        }
    then_steps some (Some a) t =
        let h = fills_some reads x.reader m.reader (held_of m) some fills in
        moves_both rl wl x m y [] (a ∷ []) tt (reads_more x m writer amount copying still h) t

-- a copy whose reader's end was not met
pub is_copying : (a : Phase) → (a ≡ Flushing → ⊥) → a ≡ Copying
is_copying Copying h = refl
is_copying Flushing h = absurd (h refl)
