-- What comes of a copy, a chain and a buffered writer.
use Rattle.std.specs.Prelude.{◌≡◌, ◌%◌, ◌^◌, ℕ, false, List, [], ◌∷◌, ◌++◌, Result, Ok, Err, IfOk, length}
use Rattle.std.proofs.Common.{◌+◌}
use Rattle.lite_theorems.specs.Uses.{AtEachOk, ◌∙◌, refl, ap, sym, subst, arith, append-nil, Error, Poll, Gives, Lent}
use Rattle.lite_theorems.specs.Uses.{Runs, Buffers, unwritten, writer_inner, BufWriter, ChainsReaders, first_of}
use Rattle.lite_theorems.specs.Uses.{has_ended, second_of, Chain, ReadMark, MarkLaws, WriteMark, bytes_taken, CopyRuns}
use Rattle.lite_theorems.specs.Uses.{told_both, taken_both, bytes_told, NothingCopied, source_of, CopyFuture, MutBor}
use Rattle.lite_base.specs.Laws.Alike.{gives_strip}
use Rattle.lite_buffered.specs.Laws.BufWriter.{segments_done}
use Rattle.lite_write.specs.Copy.{CopyValue, held_of, met_in}
use Rattle.lite_write.specs.Laws.Copy.{ok_value}
use Rattle.lite_theorems.specs.Chained.{CopiesBoth, CopiesWhole, WritesWhole, ReadsRest, ReadsWhole}
use Rattle.lite_theorems.specs.Laws.Chained.{tells_both}

-- a buffered writer that took some bytes and then was flushed
buffered_whole : {W : Type 0} (writes : Runs WriteMark W) (x y : BufWriter W) (out : List WriteMark)
    → Buffers writes x (out ++ WriteMark.flushed ∷ []) y
    → WritesWhole writes (writer_inner x) (unwritten x ++ bytes_taken out) (writer_inner y) × (unwritten y ≡ [])
buffered_whole writes x y out h =
    let last = segments_done (unwritten x) (unwritten y) h.taken out WriteMark.flushed tt h.segments in
    let told : bytes_taken (out ++ WriteMark.flushed ∷ []) ≡ bytes_taken out = taken_both out (WriteMark.flushed ∷ [])
    ∙ append-nil (bytes_taken out) in
    let front : bytes_taken h.taken ≡ bytes_taken last.0.0 = ap bytes_taken last.0.1
    ∙ taken_both last.0.0 (WriteMark.flushed ∷ []) ∙ append-nil (bytes_taken last.0.0) in
    let whole = sym
    (ap (λ l. unwritten x ++ l) (sym told) ∙ h.balanced ∙ ap (λ l. bytes_taken h.taken ++ l) last.1
    ∙ append-nil (bytes_taken h.taken) ∙ front) in (
      record {
        taken = last.0.0;
        all = whole;
        went =
            subst (λ l. writes (writer_inner x) l (writer_inner y)) last.0.1 h.ran;
      },
      last.1,
    )

module _ {R W : Type 0} (reads : Runs ReadMark R) (writes : Runs WriteMark W) where
  abbrev pub Copying : Type 0
  Copying = CopyFuture R (MutBor (BufWriter W))

  copied_whole : (f y : Copying) (out : List (Poll (Result ℕ Error))) (n : ℕ) → NothingCopied f
      → CopyRuns reads (Lent (Buffers writes)) f out y
      → Gives out (Ok n) → CopiesWhole reads writes (source_of f) f.writer.now y n
  copied_whole f y out n begins h g =
      let m = h.moves in
      let c = m.copied in
      let given = subst (λ v. CopyValue v c.failed c.last (held_of y) (met_in y.phase) y.amount)
      (gives_strip out (Ok n) g) c.value in
      let value = ok_value (held_of y) (met_in y.phase) y.amount n c.failed c.last given in
      let read = c.reading.read in
      let written = c.writing.written in
      let ended : m.told ≡ read ++ ReadMark.end ∷ [] =
      ap (λ l. l ++ m.told) (sym begins.met) ∙ c.reading.cut ∙ ap (λ l. read ++ (met_in y.phase ++ l)) value.0
      ∙ ap (λ l. read ++ l) (append-nil (met_in y.phase) ∙ value.3) in
      let flushed : m.took ≡ written ++ WriteMark.flushed ∷ [] = c.writing.cut ∙ ap (λ l. written ++ l) value.1 in
      let took = buffered_whole writes f.writer.now y.writer.now written
      (subst (λ l. Buffers writes f.writer.now l y.writer.now) flushed m.went.0) in
      let taken : bytes_taken m.took ≡ bytes_taken written = ap bytes_taken flushed
      ∙ taken_both written (WriteMark.flushed ∷ []) ∙ append-nil (bytes_taken written) in
      let moved : bytes_told read ≡ bytes_taken written =
      sym (append-nil (bytes_told read)) ∙ sym (told_both read (ReadMark.end ∷ [])) ∙ ap bytes_told (sym ended)
      ∙ ap (λ l. l ++ bytes_told m.told) (sym begins.held)
      ∙ c.balanced ∙ ap (λ l. bytes_taken m.took ++ l) value.2 ∙ append-nil (bytes_taken m.took) ∙ taken in
      let bytes : bytes_taken m.took ≡ bytes_told read = taken ∙ sym moved in
      let count : f.amount + length (bytes_taken m.took) ≡ length (bytes_told read) =
      omega (arith, begins.none, ap length bytes) in
      let came = subst (λ l. reads (source_of f) l (source_of y)) ended m.came in
      record {
        all = bytes_told read;
        told = record { told = read; goes_on = c.reading.goes_on; all = refl; came = came };
        took = subst
            (λ l. WritesWhole writes (writer_inner f.writer.now) (unwritten f.writer.now ++ l)
            (writer_inner y.writer.now)) (sym moved) took.0;
        empty = took.1;
        count = value.4 ∙ m.counted ∙ ap (λ k. k % 2 ^ 64) count;
      }

  pub copied : {E : Type 0} (s : R) (w : MutBor (BufWriter W)) (r : Result Copying E) → IfOk r (λ f. source_of f ≡ s)
      → IfOk r (λ f. f.writer ≡ w)
      → IfOk r (λ f. NothingCopied f)
      → IfOk r (λ f. AtEachOk (CopyRuns reads (Lent (Buffers writes))) f (CopiesWhole reads writes s w.now))
  copied s w (Err e) reader writer begins = tt
  copied s w (Ok f) reader writer begins =
      λ out y n h g.
      let whole = copied_whole f y out n begins h g in
      let named = subst (λ v. CopiesWhole reads writes v f.writer.now y n) reader whole in
      subst (λ (v : MutBor (BufWriter W)). CopiesWhole reads writes s v.now y n) writer named

module _ {R S W : Type 0} (first : Runs ReadMark R) (second : Runs ReadMark S) (writes : Runs WriteMark W)
    (fl : MarkLaws first) where
  -- of a chain of which nothing was read yet
  copied_both : (c : Chain R S) (s : R) (t : S) (w : BufWriter W) (y : CopyFuture (Chain R S) (MutBor (BufWriter W)))
      (n : ℕ) → first_of c ≡ s
      → second_of c ≡ t → has_ended c ≡ false → CopiesWhole (ChainsReaders first second) writes c w y n
      → CopiesBoth first second writes s t w y n
  copied_both c s t w y n one two fresh h =
      let both = tells_both first second fl c (source_of y) h.all h.told in
      let from = subst
      (λ b. ReadsRest b first (first_of c) both.firsts (first_of (source_of y))) fresh both.first_told in
      record {
        firsts = both.firsts;
        seconds = both.seconds;
        first_told = subst (λ v. ReadsWhole first v both.firsts (first_of (source_of y))) one from;
        second_told = subst (λ v. ReadsWhole second v both.seconds (second_of (source_of y))) two both.second_told;
        took = subst
            (λ l. WritesWhole writes (writer_inner w) (unwritten w ++ l) (writer_inner y.writer.now)) both.all h.took;
        empty = h.empty;
        count = h.count ∙ ap (λ (l : List ℕ). length l % 2 ^ 64) both.all;
      }

  pub chained : {E : Type 0} (c : Chain R S) (s : R) (t : S) (w : BufWriter W)
      (r : Result (CopyFuture (Chain R S) (MutBor (BufWriter W))) E)
      → first_of c ≡ s → second_of c ≡ t → has_ended c ≡ false
      → IfOk r (λ f. AtEachOk (CopyRuns (ChainsReaders first second) (Lent (Buffers writes))) f
      (CopiesWhole (ChainsReaders first second) writes c w))
      → IfOk r (λ f. AtEachOk (CopyRuns (ChainsReaders first second) (Lent (Buffers writes))) f
      (CopiesBoth first second writes s t w))
  chained c s t w (Err e) one two fresh h = tt
  chained c s t w (Ok f) one two fresh h = λ out y n k g. copied_both c s t w y n one two fresh (h out y n k g)
