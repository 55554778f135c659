-- The steps of `read_line`.
use Rattle.std.specs.Prelude.{◌≡◌, ◌<◌, ◌+◌, ℕ, List, [], ◌++◌, Some, None, Result, Ok, Err, length, take, IfErr, IfOk, IsUtf8, string_bytes, true}
use Rattle.lite_read.specs.Uses.{◌∙◌, inl, refl, sym, subst, arith, append-nil, length-take-le, error_kind, FoldsTo}
use Rattle.lite_read.specs.Uses.{Error, OutOfMemory, IsFirstByte, is_byte, Ready, ReadMark, bytes, filled_marks}
use Rattle.lite_read.specs.Uses.{MarkLaws, Runs}
use Rattle.lite_read.specs.ReadFold.{AnswerMarks}
use Rattle.lite_read.proofs.Cutting.{fill_then, found_at, found_none, takes_all}
use Rattle.lite_read.specs.ReadUntil.{CountsPiece}
use Rattle.lite_read.proofs.Lacking.{lacks_through, through_found}
use Rattle.lite_read.specs.Holding.{TextStays, room_for}
use Rattle.lite_read.specs.ReadLine.{LineHolds, LineLacksMemory, line_over, read_line_fold}
use Rattle.lite_read.specs.Texts.{AppendsText, FinishesText, ValueOf}
use Rattle.lite_read.specs.PollSteps.{AnswersText, AnswersTextByRoom, TakesTextIn}
use Rattle.lite_read.specs.declared.read_line.ReadLineFuture.{ReadLineFuture}
use Rattle.lite_read.proofs.Texts.{all_utf8}
use Rattle.lite_read.proofs.TextSteps.{text_finished, text_given, text_value}
use Rattle.lite_read.proofs.Until.{cut_off, refused}

-- the future whose reader was filled
abbrev pub after_fill : {R A : Type 0} → ReadLineFuture R A → R → ReadLineFuture R A
after_fill x r = record { reader = record x.reader { now = r }; text = x.text; bytes = x.bytes; ascii = x.ascii }

module _ {R A : Type 0} (m : List ℕ → Type 0) {reads : Runs ReadMark R} (laws : MarkLaws reads)
    (x : ReadLineFuture R A) (mid : R) where
  -- the fill tells how reading ended
  pub filled_last : {y : ReadLineFuture R A} {marks : List ReadMark} {v r : Result ℕ Error}
      → FinishesText line_over (after_fill x mid) v r y
      → AnswerMarks (read_line_fold m) x.bytes.items marks (Ready v) x.bytes.items → reads x.reader.now marks mid
      → AnswersText line_over (read_line_fold m) reads x (Ready r) y
  filled_last f h came =
      text_finished line_over _ reads x (after_fill x mid) _ (record { reader = refl; text = refl }) refl f h came

  module _ (w : ReadLineFuture R A) (shown : List ℕ) (stays : TextStays line_over (after_fill x mid) w)
      (text : string_bytes w.text.now ≡ string_bytes x.text.now)
      (fills : reads x.reader.now (filled_marks shown) mid) where
    from : TextStays line_over x w
    from = record { reader = stays.reader; text = stays.text }

    module _ {y : ReadLineFuture R A} {v r : Result ℕ Error} (f : FinishesText line_over w v r y) where
      -- the newline was taken
      pub line_cut : (k : ℕ) → v ≡ Ok (length w.bytes.items) → IsFirstByte (is_byte 10) shown (Some k)
          → w.bytes.items ≡ x.bytes.items ++ take (k + 1) shown
          → reads mid (bytes (take (k + 1) shown)) w.reader.now
          → AnswersText line_over (read_line_fold m) reads x (Ready r) y
      line_cut k is first more took =
          let came = fill_then laws shown (omega (arith, (found_at 10 shown k first).0)) fills took in
          let h = cut_off 10 x.bytes.items shown w.bytes.items k _ first more refl in
          text_finished line_over _ reads x w y from text f
          (subst (λ u. AnswerMarks (read_line_fold m) x.bytes.items (bytes (take (k + 1) shown)) (Ready u)
          w.bytes.items) (sym is) h) came

      -- there was no memory
      pub line_refused : (e : Error) → v ≡ Err e → error_kind e ≡ OutOfMemory → 0 < length shown → w.reader.now ≡ mid
          → w.bytes.items ≡ x.bytes.items → m x.bytes.items
          → AnswersText line_over (read_line_fold m) reads x (Ready r) y
      line_refused e is kind some unread kept full =
          let came = fill_then laws shown some fills (rw unread (laws.rests mid)) in
          let h = subst (λ u. AnswerMarks (read_line_fold m) x.bytes.items [] (Ready u) x.bytes.items) (sym is)
          (refused 10 _ _ e kind full refl) in
          text_finished line_over _ reads x w y from text f
          (subst (λ l. AnswerMarks (read_line_fold m) x.bytes.items [] (Ready v) l) (sym kept) h) came

    -- all was taken in
    pub line_more : IsFirstByte (is_byte 10) shown None → 0 < length shown → w.bytes.items ≡ x.bytes.items ++ shown
        → reads mid (bytes shown) w.reader.now → LineHolds w
        → line_over.grows x w → TakesTextIn line_over (read_line_fold m) reads x w
    line_more first some more took holds grows =
        let all = takes_all 10 m (CountsPiece 10) x.bytes.items shown (found_none 10 shown first) in
        record {
          taken = shown;
          some = some;
          came = fill_then laws shown some fills took;
          folds = subst (λ l. FoldsTo (read_line_fold m).takes x.bytes.items shown l) (sym more) all;
          stays = (from, text, holds, grows);
        }

-- a line that is whole in the buffer goes into the text at once
module _ {R A : Type 0} (buffer_of : R → List ℕ) {reads : Runs ReadMark R} (laws : MarkLaws reads) (x y : ReadLineFuture R A)
    (mid : R) (stays : TextStays line_over (after_fill x mid) y) (fills : reads x.reader.now (filled_marks (buffer_of mid)) mid)
    (none : x.bytes.items ≡ []) (left : y.bytes.items ≡ []) (holds : LineHolds y) (k : ℕ)
    (first : IsFirstByte (is_byte 10) (buffer_of mid) (Some k)) where
  abbrev line : List ℕ
  line = take (k + 1) (buffer_of mid)

  given : (marks : List ReadMark) (v r : Result ℕ Error) (all : List ℕ)
      → AnswerMarks (read_line_fold (LineLacksMemory buffer_of x y)) x.bytes.items marks (Ready v) all → ValueOf all v r
      → AppendsText all (string_bytes x.text.now) (string_bytes y.text.now) → reads mid marks y.reader.now
      → AnswersTextByRoom line_over read_line_fold (LineLacksMemory buffer_of) reads x (Ready r) y
  given marks v r all h value gains took =
      let some : 0 < length (buffer_of mid) = omega (arith, (found_at 10 (buffer_of mid) k first).0) in
      text_value line_over read_line_fold (LineLacksMemory buffer_of) x y r (
        text_given line_over (read_line_fold (LineLacksMemory buffer_of x y)) reads x y
            (record { reader = stays.reader; text = stays.text }) marks v r all h value gains left
            (fill_then laws (buffer_of mid) some fills took),
        holds,
      )

  pub line_direct : (r : Result ℕ Error) → IsUtf8 line → IfOk r (λ n. n ≡ k + 1)
      → IfOk r (λ n. string_bytes y.text.now ≡ string_bytes x.text.now ++ line)
      → IfOk r (λ n. reads mid (bytes line) y.reader.now)
      → IfErr r (λ e. error_kind e ≡ OutOfMemory) → IfErr r (λ e. room_for x.text.now x.bytes < k + 1)
      → IfErr r (λ e. y.reader.now ≡ mid) → IfErr r (λ e. string_bytes y.text.now ≡ string_bytes x.text.now)
      → AnswersTextByRoom line_over read_line_fold (LineLacksMemory buffer_of) reads x (Ready r) y
  line_direct (Ok n) utf8 count grown took refusal full unread same =
      let long : n ≡ length line =
      omega (arith, count, (found_at 10 (buffer_of mid) k first).0, length-take-le (k + 1) (buffer_of mid)) in
      let h = cut_off 10 x.bytes.items (buffer_of mid) line k n first (rw none refl) long in
      given (bytes line) (Ok n) (Ok n) line h (utf8, refl) (inl (utf8, grown)) took
  line_direct (Err e) utf8 count grown took refusal full unread same =
      let lacks = lacks_through 10 buffer_of unread none (through_found 10 (buffer_of mid) k first) (omega (arith, full)) in
      let h = refused 10 x.bytes.items [] e refusal lacks (sym none) in
      given [] (Err e) (Err e) [] h refl (inl (all_utf8 [] true refl refl, same ∙ sym (append-nil _)))
      (rw unread (laws.rests mid))
