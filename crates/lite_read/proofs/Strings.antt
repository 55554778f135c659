-- The steps of `read_to_string`.
use Rattle.std.specs.Prelude.{◌≡◌, ◌≤◌, ◌<◌, ◌+◌, ◌-◌, ℕ, List, [], ◌∷◌, length, take, Result, Ok, Err, ⊤, ◌*◌, max, string_bytes}
use Rattle.lite_read.specs.Uses.{◌∙◌, refl, ap, sym, subst, arith, length-take-le, error_kind, with_items, Error}
use Rattle.lite_read.specs.Uses.{OutOfMemory, Ready, Pending, ReadMark, bytes, moved_marks, segment_alone, Runs}
use denote.MutBor.{MutBor}
use borrow.Rule.Slice.PartMut.{put_mid}
use Rattle.lite_read.proofs.Filling.{Behind, bytes_came, how_long, put_front, put_kept, put_len}
use Rattle.lite_read.specs.ReadFold.{AnswerMarks}
use Rattle.lite_read.specs.Laws.ReadToEnd.{appends_all}
use Rattle.lite_read.specs.Holding.{TextStays, room_for}
use Rattle.lite_read.specs.ReadToString.{StringHolds, all_over, read_to_string_fold, text_front}
use Rattle.lite_read.specs.Texts.{FinishesText}
use Rattle.lite_read.specs.PollSteps.{AnswersText, TakesTextIn}
use Rattle.lite_read.proofs.TextSteps.{text_finished, text_waits}
use Rattle.lite_read.specs.declared.read_to_string.ReadToStringFuture.{ReadToStringFuture}

-- what reading up to an end gives
module _ {m : List ℕ → Type 0} where
  pub failed : (g : List ℕ) (e : Error)
      → AnswerMarks (read_to_string_fold m) g (ReadMark.fault (error_kind e) ∷ []) (Ready (Err e)) g
  failed g e = segment_alone g g (ReadMark.fault _ ∷ []) (Ready _) (refl, refl)

  pub refused : (g : List ℕ) (e : Error) → error_kind e ≡ OutOfMemory → m g
      → AnswerMarks (read_to_string_fold m) g [] (Ready (Err e)) g
  refused g e is full = segment_alone g g [] (Ready _) ((full, is), refl)

  pub ended : (g : List ℕ) (n : ℕ) → length g ≡ n
      → AnswerMarks (read_to_string_fold m) g (ReadMark.end ∷ []) (Ready (Ok n)) g
  ended g n is = segment_alone g g (ReadMark.end ∷ []) (Ready _) (omega (arith, is), refl)

-- the future that read n bytes into the room
abbrev pub after_read : {R A : Type 0} → ReadToStringFuture R A → R → List ℕ → ℕ → ℕ → ReadToStringFuture R A
after_read w r items n room =
    record {
      reader = record w.reader { now = r };
      text = w.text;
      bytes = with_items w.bytes items;
      filled = w.filled + n;
      room = room;
    }

module _ {R A : Type 0} (m : List ℕ → Type 0) (reads : Runs ReadMark R) where
  pub read_some : (x w : ReadToStringFuture R A) (r : R) (old new : List ℕ) (n room : ℕ) → w.reader ≡ x.reader
      → w.filled ≡ x.filled → room_for x.text.now x.bytes ≤ room_for w.text.now w.bytes
      → room ≤ max x.room (2 * n)
      → TextStays all_over x w
      → string_bytes w.text.now ≡ string_bytes x.text.now → text_front w ≡ text_front x → StringHolds w
      → old ≡ w.bytes.items
      → Behind w.filled old new → n ≤ length new → 0 < n → reads w.reader.now (moved_marks new (take n new)) r
      → TakesTextIn all_over (read_to_string_fold m) reads x
      (after_read w r (put_mid w.filled (length old - w.filled) old new) n room)
  read_some x w r old new n room reader filled memory asked stays text front_is holds is long most some came =
      let all = bytes_came reads w.reader.now r new n most some came in
      let more = put_front w.bytes old new w.filled holds.within is long n most in
      let whole = put_len w.bytes old new w.filled holds.within is long in
      record {
        taken = take n new;
        some = all.0;
        came = subst (λ (b : MutBor R). reads b.now (bytes (take n new)) r) reader all.1;
        folds = rw (more, front_is) (appends_all ⊤ 0 _ _);
        stays = (
          record { reader = ap (λ (b : MutBor R). record b { now = r }) reader; text = stays.text },
          text,
          record {
            fits = holds.fits;
            within = omega (arith, whole, ap length is, how_long w.filled old new long, most, holds.within);
          },
          record {
            filled = omega (arith, filled);
            memory = memory;
            room = omega (arith, filled, asked);
          },
        );
      }

-- the future whose reader wrote into the room
abbrev pub after_write : {R A : Type 0} → ReadToStringFuture R A → R → List ℕ → ReadToStringFuture R A
after_write w r items =
    record {
      reader = record w.reader { now = r };
      text = w.text;
      bytes = with_items w.bytes items;
      filled = w.filled;
      room = w.room;
    }

module _ {R A : Type 0} (m : List ℕ → Type 0) (reads : Runs ReadMark R) (x w y : ReadToStringFuture R A)
    (stays : TextStays all_over x w)
    (text : string_bytes w.text.now ≡ string_bytes x.text.now)
    (front_is : text_front w ≡ text_front x) where
  -- what was read goes into the text
  pub finished : {marks : List ReadMark} {v r : Result ℕ Error} → FinishesText all_over w v r y
      → AnswerMarks (read_to_string_fold m) (text_front w) marks (Ready v) (text_front w)
      → reads x.reader.now marks w.reader.now → AnswersText all_over (read_to_string_fold m) reads x (Ready r) y
  finished {marks} {v} f h came =
      text_finished all_over _ reads x w y stays text f
      (subst (λ l. AnswerMarks (read_to_string_fold m) l marks (Ready v) (text_front w)) front_is h) came

module _ {R A : Type 0} (m : List ℕ → Type 0) (reads : Runs ReadMark R) (x w : ReadToStringFuture R A) (r : R)
    (old new : List ℕ)
    (reader : w.reader ≡ x.reader) (stays : TextStays all_over x w)
    (front_is : text_front w ≡ text_front x) (holds : StringHolds w) (is : old ≡ w.bytes.items)
    (long : Behind w.filled old new) where
  abbrev wrote : ReadToStringFuture R A
  wrote = after_write w r (put_mid w.filled (length old - w.filled) old new)

  wrote_stays : TextStays all_over x wrote
  wrote_stays = record { reader = ap (λ (b : MutBor R). record b { now = r }) reader; text = stays.text }

  -- what stands before the room is as it was
  wrote_front : text_front wrote ≡ text_front x
  wrote_front = put_kept w.bytes old new w.filled holds.within is long ∙ front_is

  -- the reader was pending
  pub waited : string_bytes w.text.now ≡ string_bytes x.text.now → reads w.reader.now (ReadMark.pending ∷ []) r
      → AnswersText all_over (read_to_string_fold m) reads x Pending wrote
  waited text came = (
    text_waits all_over _ reads x wrote wrote_stays wrote_front text tt
        (subst (λ (b : MutBor R). reads b.now (ReadMark.pending ∷ []) r) reader came),
    record {
      fits = holds.fits;
      within = omega (arith, put_len w.bytes old new w.filled holds.within is long, holds.within);
    },
  )

  -- the reader answered, and what was read goes into the text
  pub answered : {y : ReadToStringFuture R A} {marks : List ReadMark} {v res : Result ℕ Error}
      → string_bytes w.text.now ≡ string_bytes x.text.now → FinishesText all_over wrote v res y
      → AnswerMarks (read_to_string_fold m) (text_front wrote) marks (Ready v) (text_front wrote)
      → reads w.reader.now marks r → AnswersText all_over (read_to_string_fold m) reads x (Ready res) y
  answered {marks} text f h came =
      finished m reads x wrote _ wrote_stays text wrote_front f h
      (subst (λ (b : MutBor R). reads b.now marks r) reader came)

  pub wrote_long : length (text_front wrote) ≡ w.filled
  wrote_long =
      ap length (wrote_front ∙ sym front_is) ∙ length-take-le w.filled w.bytes.items holds.within
