-- The steps of `read_until`.
use Rattle.std.specs.Prelude.{◌≡◌, ◌<◌, ◌≤◌, ◌+◌, ◌-◌, ℕ, List, [], ◌∷◌, ◌++◌, Some, None, Result, Ok, Err, length, take, drop, ⊤, vec_capacity}
use Rattle.lite_read.specs.Uses.{◌∙◌, inl, inr, refl, ap, sym, subst, arith, append-nil, append_assoc, length-append}
use Rattle.lite_read.specs.Uses.{length-drop, take-append-le, error_kind, Error, OutOfMemory, Poll, Ready, Pending}
use Rattle.lite_read.specs.Uses.{IsFirstByte, is_byte, ReadMark, bytes, filled_marks, MarkLaws, Reaches, up_to_one}
use Rattle.lite_read.specs.Uses.{segments_one, Runs, steps_answer}
use Rattle.std.proofs.lemmas.List.{drop-append-le}
use Rattle.lite_read.specs.ReadFold.{AnswerMarks}
use Rattle.lite_read.specs.Pieces.{Cut}
use Rattle.lite_read.specs.ReadUntil.{UntilStays, read_of, CountsPiece, ReadsUntil, ReadsUntilByRoom, UntilLacksRoom, until, until_where}
use Rattle.lite_read.specs.PollSteps.{AppendsMore}
use Rattle.lite_read.specs.declared.read_until.ReadUntilFuture.{ReadUntilFuture}
use Rattle.lite_read.proofs.Cutting.{concludes_at, concludes_piece, fill_then, found_at, found_none, takes_all, waits_here}
use Rattle.lite_read.specs.Laws.ReadUntil.{lacks_sooner, step_before}
use Rattle.lite_read.specs.Laws.Refusals.{gathers_weaker, pieces_weaker, takes_alike}

-- what reading up to a byte gives, at each of its ends
module _ (byte : ℕ) {m : List ℕ → Type 0} where
  pub failed : (held after : List ℕ) (e : Error) → after ≡ held
      → AnswerMarks (until_where byte m) held (ReadMark.fault (error_kind e) ∷ []) (Ready (Err e)) after
  failed held after e is =
      concludes_at byte m (CountsPiece byte) held _ (Cut.failed e) (Err e) after (inl refl) (is, refl)

  pub refused : (held after : List ℕ) (e : Error) → error_kind e ≡ OutOfMemory → m held → after ≡ held
      → AnswerMarks (until_where byte m) held [] (Ready (Err e)) after
  refused held after e kind full is =
      concludes_at byte m (CountsPiece byte) held [] (Cut.failed e) _ after (inr (refl, full, kind)) (is, refl)

  pub ended : (held after : List ℕ) (n : ℕ) → after ≡ held → n ≡ length held
      → AnswerMarks (until_where byte m) held (ReadMark.end ∷ []) (Ready (Ok n)) after
  ended [] after n is count =
      concludes_at byte m (CountsPiece byte) [] _ Cut.nothing _ after (refl, refl)
      (is, ap Ok (count ∙ ap length (sym is)))
  ended (b ∷ held) after n is count =
      let some : 0 < length (b ∷ held) = omega arith in
      concludes_at byte m (CountsPiece byte) _ _ (Cut.last _) _ after (refl, some, refl)
      (is, ap Ok (count ∙ ap length (sym is)))

  pub cut_off : (held shown all : List ℕ) (k n : ℕ) → IsFirstByte (is_byte byte) shown (Some k)
      → all ≡ held ++ take (k + 1) shown → n ≡ length all
      → AnswerMarks (until_where byte m) held (bytes (take (k + 1) shown)) (Ready (Ok n)) all
  cut_off held shown all k n first is count =
      let at = found_at byte shown k first in
      let whole : all ≡ (held ++ take k shown) ++ byte ∷ [] = is ∙ ap (λ l. held ++ l) at.2
      ∙ sym (append_assoc held _ (byte ∷ [])) in
      let piece = concludes_piece byte m (CountsPiece byte) held _ _ all at.1 (whole, ap Ok count) in
      subst (λ l. AnswerMarks (until_where byte m) held (bytes l) (Ready (Ok n)) all) (sym at.2) piece

module _ {R : Type 0} {reads : Runs ReadMark R} (laws : MarkLaws reads) (x y : ReadUntilFuture R)
    (reader : y.reader ≡ record x.reader { now = y.reader.now })
    (buf : y.buf ≡ record x.buf { now = y.buf.now }) (byte : y.byte ≡ x.byte) (start : y.start ≡ x.start)
    (within : x.start ≤ length x.buf.now.items)
    (room : vec_capacity x.buf.now ≤ vec_capacity y.buf.now) where
  -- some bytes were appended
  stays_grown : (xs : List ℕ) → y.buf.now.items ≡ x.buf.now.items ++ xs → UntilStays x y
  stays_grown xs e =
      record {
        reader = reader;
        buf = buf;
        byte = byte;
        start = start;
        before = ap (take x.start) e ∙ take-append-le x.start x.buf.now.items xs within;
        grows = omega (arith, ap length e, length-append x.buf.now.items xs);
        room = room;
      }

  read_grown : (xs : List ℕ) → y.buf.now.items ≡ x.buf.now.items ++ xs → read_of y ≡ read_of x ++ xs
  read_grown xs e =
      ap (λ n. drop n y.buf.now.items) start ∙ ap (drop x.start) e ∙ drop-append-le x.start x.buf.now.items xs within

  one : {m : Type 0} (xs : List ℕ) (marks : List ReadMark) (a : Poll (Result ℕ Error))
      → y.buf.now.items ≡ x.buf.now.items ++ xs
      → reads x.reader.now marks y.reader.now
      → AnswerMarks (until x.byte m) (read_of x) marks a (read_of x ++ xs) → ReadsUntil reads m x (a ∷ []) y
  one xs marks a e came answer =
      record {
        folded = record {
          marks = marks;
          came = came;
          cut = segments_one (AnswerMarks _) _ _ marks a
              (subst (AnswerMarks _ _ marks a) (sym (read_grown xs e)) answer);
        };
        ends = up_to_one a;
        stays = stays_grown xs e;
        idle = λ d. absurd (cc d);
      }

  module _ (same : y.buf.now.items ≡ x.buf.now.items) where
    none_more : y.buf.now.items ≡ x.buf.now.items ++ []
    none_more = same ∙ sym (append-nil x.buf.now.items)

    -- a cut that adds nothing
    cut_here : {m : Type 0} (last : List ReadMark) (a : Result ℕ Error) → reads x.reader.now last y.reader.now
        → ((after : List ℕ) → after ≡ read_of x → AnswerMarks (until x.byte m) (read_of x) last (Ready a) after)
        → ReadsUntil reads m x (Ready a ∷ []) y
    cut_here last a came answer =
        one [] last _ none_more came (answer (read_of x ++ []) (append-nil _))

    pub until_waits : {m : Type 0} → reads x.reader.now (ReadMark.pending ∷ []) y.reader.now
        → ReadsUntil reads m x (Pending ∷ []) y
    until_waits {m} came =
        one [] (ReadMark.pending ∷ []) Pending none_more came
        (waits_here x.byte (λ held. m) (CountsPiece x.byte) _ (read_of x ++ []) (append-nil _))

    pub until_fails : {m : Type 0} (e : Error) → reads x.reader.now (ReadMark.fault (error_kind e) ∷ []) y.reader.now
        → ReadsUntil reads m x (Ready (Err e) ∷ []) y
    until_fails e came =
        cut_here _ (Err e) came (λ after is. failed x.byte _ after e is)

    pub until_refused : {m : Type 0} (e : Error) (mid : R) (shown : List ℕ) → reads x.reader.now (filled_marks shown) mid
        → 0 < length shown → error_kind e ≡ OutOfMemory → y.reader.now ≡ mid → m
        → ReadsUntil reads m x (Ready (Err e) ∷ []) y
    until_refused e mid shown fills some is unread full =
        let came = fill_then laws shown some fills (rw unread (laws.rests mid)) in
        cut_here [] (Err e) came (λ after same. refused x.byte _ after e is full same)

    pub until_ends : {m : Type 0} (n : ℕ) → n ≡ length x.buf.now.items - x.start
        → reads x.reader.now (ReadMark.end ∷ []) y.reader.now → ReadsUntil reads m x (Ready (Ok n) ∷ []) y
    until_ends n count came =
        cut_here _ _ came (λ after is. ended x.byte _ after n is (count ∙ sym (length-drop x.start x.buf.now.items)))

  module _ (mid : R) (shown : List ℕ) (fills : reads x.reader.now (filled_marks shown) mid) where
    pub until_found : {m : Type 0} (k n : ℕ) → IsFirstByte (is_byte x.byte) shown (Some k)
        → y.buf.now.items ≡ x.buf.now.items ++ take (k + 1) shown
        → reads mid (bytes (take (k + 1) shown)) y.reader.now → n ≡ length y.buf.now.items - x.start
        → ReadsUntil reads m x (Ready (Ok n) ∷ []) y
    until_found k n first is took count =
        let at = found_at x.byte shown k first in
        let all = take _ shown in
        let came = fill_then laws shown (omega (arith, at.0)) fills took in
        let long : n ≡ length (read_of x ++ all) =
        omega (
          arith,
          count,
          ap length is,
          length-append x.buf.now.items all,
          length-append (read_of x) all,
          length-drop x.start x.buf.now.items,
          within,
        ) in
        one all _ _ is came (cut_off x.byte (read_of x) shown (read_of x ++ all) k n first refl long)

    pub until_more : IsFirstByte (is_byte x.byte) shown None → 0 < length shown
        → y.buf.now.items ≡ x.buf.now.items ++ shown → reads mid (bytes shown) y.reader.now
        → AppendsMore reads ⊤ x y
    until_more first some is took =
        let all = takes_all x.byte (λ held. ⊤) (CountsPiece x.byte) _ shown (found_none x.byte shown first) in
        record {
          taken = shown;
          some = some;
          came = fill_then laws shown some fills took;
          folds = rw (read_grown shown is) all;
          stays = stays_grown shown is;
        }

-- an answer after some steps
pub until_full : {R : Type 0} {reads : Runs ReadMark R} (buffer_of : R → List ℕ) → MarkLaws reads
    → {x z : ReadUntilFuture R} {a : Poll (Result ℕ Error)}
    → (y : ReadUntilFuture R) × Reaches (AppendsMore reads ⊤) x y
    × ReadsUntil reads (UntilLacksRoom buffer_of y z) y (a ∷ []) z → ReadsUntilByRoom reads buffer_of x (a ∷ []) z
until_full {reads} buffer_of laws steps =
    let ran = steps_answer {answers = λ x a z. ReadsUntil reads (UntilLacksRoom buffer_of x z) x (a ∷ []) z} (λ x y z a t h.
    let m = UntilLacksRoom buffer_of y z in
    let n = UntilLacksRoom buffer_of x z in
    step_before laws x y z a (takes_alike (λ v p q b h. h) x y t)
    (gathers_weaker (λ v. pieces_weaker v.byte (λ held. m) (λ held. n) (CountsPiece v.byte)
    (λ held. lacks_sooner buffer_of x y z t.stays)) y z (a ∷ []) h)) steps in
    record { gathered = ran; grows = λ w. ran.stays.room }
