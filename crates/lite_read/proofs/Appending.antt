-- Steps and polls of `read_to_end`.
use Rattle.std.specs.Prelude.{◌≡◌, ◌≤◌, ◌<◌, ◌+◌, ◌-◌, ℕ, List, [], ◌∷◌, length, take, Result, Err, ⊤, ◌*◌, max, vec_capacity}
use Rattle.lite_read.specs.Uses.{◌∙◌, refl, ap, sym, subst, arith, length-take-le, error_kind, Error, OutOfMemory}
use Rattle.lite_read.specs.Uses.{with_items, Vec, OnPending, Poll, Ready, Pending, Ranks, up_to_one, segment_alone}
use Rattle.lite_read.specs.Uses.{segments_one, Runs, ReadCounting, ReadMark, bytes, moved_marks, MarkLaws, Reaches, steps_answer}
use Rattle.std.proofs.Math.Seq.{take-length}
use denote.MutBor.{MutBor}
use borrow.Rule.Slice.PartMut.{put_mid}
use Rattle.lite_read.proofs.Filling.{Behind, bytes_came, how_long, put_front, put_kept, put_len}
use Rattle.lite_read.specs.ReadFold.{AnswerMarks, LastMarks}
use Rattle.lite_read.specs.Laws.Refusals.{appends_weaker, gathers_weaker, takes_alike}
use Rattle.lite_read.specs.ReadToEnd.{ToEndGrows, VectorGrows, read_front, ReadsToEnd, ToEndLacksRoom, appends}
use Rattle.lite_read.specs.Laws.ReadToEnd.{appends_all, grown, step_before}
use Rattle.lite_read.specs.PollSteps.{AnswersByRoom, AnswersUntrimmed, ReadsSome}
use Rattle.lite_read.specs.declared.read_to_end.ReadToEndFuture.{ReadToEndFuture}

module _ {R A : Type 0} (m : Type 0) {reads : Runs ReadMark R} (laws : MarkLaws reads) where
  -- there was no memory for a read
  pub refused : (x w : ReadToEndFuture R A) (e : Error) → m → w ≡ record x { buf = record x.buf { now = w.buf.now } }
      → read_front w ≡ read_front x
      → error_kind e ≡ OutOfMemory → AnswersUntrimmed m reads x (Ready (Err e)) w
  refused x w e may same front kind =
      let reader : w.reader ≡ x.reader = ap (λ (v : ReadToEndFuture R A). v.reader) same in
      let none : AnswerMarks (appends m x.start) (read_front x) [] (Ready (Err e)) (read_front w) =
      segment_alone _ _ [] (Ready _) ((may, kind), front) in
      record {
        folded = record {
          marks = [];
          came = rw reader (laws.rests x.reader.now);
          cut = segments_one (AnswerMarks _) _ _ [] (Ready _) none;
        };
        ends = refl;
        stays = record {
          reader = rw reader refl;
          buf = ap (λ (v : ReadToEndFuture R A). v.buf) same;
          start = ap (λ (v : ReadToEndFuture R A). v.start) same;
        };
        idle = λ e. absurd (cc e);
      }

  -- a poll, behind which the room is cut off
  pub cut_off : (x z : ReadToEndFuture R A) (n : ℕ) (v : Vec ℕ A) (a : Poll (Result ℕ Error))
      → n ≡ length x.buf.now.items
      → v.items ≡ read_front z → AnswersUntrimmed m reads (record x { filled = n }) a z
      → ReadsToEnd m reads x (a ∷ []) (record z { buf = record z.buf { now = v } })
  cut_off x z n v a all cut h =
      let old = x.buf.now.items in
      let whole : take n old ≡ old = rw all (take-length old) in
      record {
        folded = rw cut (rw whole at h.folded);
        ends = h.ends;
        stays = record {
          reader = h.stays.reader;
          buf = ap (λ (b : MutBor _). record b { now = v }) h.stays.buf;
          start = h.stays.start;
        };
        idle = λ e. absurd (cc e);
      }

  -- after a pending another poll may be made
  pub polls_on : {r : Ranks R} → ReadCounting reads r → (x z : ReadToEndFuture R A) (a : Poll (Result ℕ Error)) (n : ℕ)
      → n ≡ length x.buf.now.items
      → x.start ≤ length x.buf.now.items → r.counts x.reader.now
      → AnswersUntrimmed m reads (record x { filled = n }) a z
      → OnPending a ((z.start ≤ length (read_front z)) × r.counts z.reader.now)
  polls_on c x z (Ready r) n all started counts h = tt
  polls_on c x z Pending n all started counts h =
      let k = h.folded.cut in
      let more = grown m x.start _ k.4.between k.4.taken k.4.folds in
      let whole : length (take n x.buf.now.items) ≡ n = length-take-le n x.buf.now.items (omega (arith, all)) in
      let same : length (read_front z) ≡ length k.4.between = ap length (k.5.1 ∙ k.4.given.2) in
      let start = h.stays.start in (
        omega (arith, started, all, whole, more, same, start),
        c.counts_on x.reader.now z.reader.now h.folded.marks counts h.folded.came,
      )

-- the future that read into the room, by which it holds these bytes
abbrev pub after_read : {R A : Type 0} → ReadToEndFuture R A → R → List ℕ → ℕ → ℕ → ReadToEndFuture R A
after_read w r items filled room =
    record {
      reader = record w.reader { now = r };
      buf = record w.buf { now = with_items w.buf.now items };
      start = w.start;
      filled = filled;
      room = room;
    }

module _ {R A : Type 0} (m : Type 0) (reads : Runs ReadMark R) where
  pub read_some : (x w : ReadToEndFuture R A) (r : R) (old new : List ℕ) (n room : ℕ)
      → w ≡ record x { buf = record x.buf { now = w.buf.now } } → read_front w ≡ read_front x
      → w.filled ≤ length w.buf.now.items → old ≡ w.buf.now.items
      → Behind w.filled old new → n ≤ length new → 0 < n → reads w.reader.now (moved_marks new (take n new)) r
      → vec_capacity x.buf.now ≤ vec_capacity w.buf.now → room ≤ max w.room (2 * n)
      → ReadsSome m reads x (after_read w r (put_mid w.filled (length old - w.filled) old new) (w.filled + n) room)
  read_some x w r old new n room same front_is within is long most some came grows asked =
      let v = with_items w.buf.now (put_mid w.filled _ old new) in
      let reader : w.reader ≡ x.reader = ap (λ (u : ReadToEndFuture R A). u.reader) same in
      let filled : w.filled ≡ x.filled = ap (λ (u : ReadToEndFuture R A). u.filled) same in
      let before : w.room ≡ x.room = ap (λ (u : ReadToEndFuture R A). u.room) same in
      let all = bytes_came reads w.reader.now r new n most some came in
      let more = put_front w.buf.now old new w.filled within is long n most in
      let whole = put_len w.buf.now old new w.filled within is long in
      record {
        taken = take n new;
        some = all.0;
        came = subst (λ (b : MutBor R). reads b.now (bytes (take n new)) r) reader all.1;
        folds = rw (more, front_is) (appends_all m x.start _ _);
        stays = (
          record {
            reader = ap (λ (b : MutBor R). record b { now = r }) reader;
            buf = ap (λ (u : ReadToEndFuture R A). record u.buf { now = v }) same;
            start = ap (λ (u : ReadToEndFuture R A). u.start) same;
          },
          record {
            filled = omega (arith, filled);
            within = omega (arith, whole, ap length is, how_long w.filled old new long, most, within);
            capacity = grows;
            room = omega (arith, filled, before, asked);
          },
        );
      }

  -- a read that moved nothing into the room
  pub read_none : (x w : ReadToEndFuture R A) (r : R) (old new : List ℕ) (marks : List ReadMark)
      (a : Poll (Result ℕ Error))
      → w ≡ record x { buf = record x.buf { now = w.buf.now } } → read_front w ≡ read_front x
      → w.filled ≤ length w.buf.now.items → old ≡ w.buf.now.items → Behind w.filled old new
      → LastMarks (appends m x.start) (read_front x) marks a (read_front x) → reads w.reader.now marks r
      → AnswersUntrimmed m reads x a
      (after_read w r (put_mid w.filled (length old - w.filled) old new) w.filled w.room)
  read_none x w r old new marks a same front_is within is long last came =
      let at = w.filled in
      let v = with_items w.buf.now _ in
      let reader : w.reader ≡ x.reader = ap (λ (u : ReadToEndFuture R A). u.reader) same in
      let after : take at v.items ≡ read_front x = put_kept w.buf.now old new at within is long ∙ front_is in
      let here = segment_alone _ _ marks a
      (subst (LastMarks (appends m x.start) (read_front x) marks a) (sym after) last) in
      record {
        folded = record {
          marks = marks;
          came = subst (λ (b : MutBor R). reads b.now marks r) reader came;
          cut = segments_one (AnswerMarks _) _ _ marks a here;
        };
        ends = up_to_one a;
        stays = record {
          reader = ap (λ (b : MutBor R). record b { now = r }) reader;
          buf = ap (λ (u : ReadToEndFuture R A). record u.buf { now = v }) same;
          start = ap (λ (u : ReadToEndFuture R A). u.start) same;
        };
        idle = λ e. absurd (cc e);
      }

module _ {R A : Type 0} {reads : Runs ReadMark R} (x y : ReadToEndFuture R A) where
  -- a value
  pub gives_value : {v : Result ℕ Error} → y.filled ≤ length y.buf.now.items → AnswersUntrimmed (ToEndLacksRoom x.filled y.filled x) reads x (Ready v) y
      → AnswersByRoom reads x (Ready v) y
  gives_value within h = (record { gathered = h; grows = λ w. absurd w }, within)

  -- a pending
  pub gives_pending : ToEndGrows x y → AnswersUntrimmed (ToEndLacksRoom x.filled y.filled x) reads x Pending y
      → AnswersByRoom reads x Pending y
  gives_pending grows h = (record { gathered = h; grows = λ w. grows }, grows.within)

-- room was made, and nothing was read into it
pub room_made : {R A : Type 0} (x w : ReadToEndFuture R A) (r : R) (old new : List ℕ)
    → w ≡ record x { buf = record x.buf { now = w.buf.now } } → w.filled ≤ length w.buf.now.items
    → old ≡ w.buf.now.items → Behind w.filled old new → vec_capacity x.buf.now ≤ vec_capacity w.buf.now
    → ToEndGrows x (after_read w r (put_mid w.filled (length old - w.filled) old new) w.filled w.room)
room_made {R} {A} x w r old new same within is long grows =
    let filled = ap (λ (u : ReadToEndFuture R A). u.filled) same in
    let before = ap (λ (u : ReadToEndFuture R A). u.room) same in
    record {
      filled = omega (arith, filled);
      within = omega (arith, put_len w.buf.now old new w.filled within is long, within);
      capacity = grows;
      room = omega (arith, before);
    }

module _ {R A : Type 0} where
  -- where there was no room after a step that goes on there was none before
  lacks_sooner : (x y z : ReadToEndFuture R A) → ToEndGrows x y → ToEndLacksRoom y.filled z.filled y
      → ToEndLacksRoom x.filled z.filled x
  lacks_sooner x y z h full = (
    full.0 + (y.filled - x.filled),
    omega (arith, h.filled, full.1),
    omega (arith, h.filled, h.capacity, h.room, full.1, full.2),
  )

  grows_join : (x y z : ReadToEndFuture R A) → ToEndGrows x y → ToEndGrows y z → ToEndGrows x z
  grows_join x y z h k =
      record {
        filled = omega (arith, h.filled, k.filled);
        within = k.within;
        capacity = omega (arith, h.capacity, k.capacity);
        room = omega (arith, h.filled, k.filled, h.room, k.room);
      }

  -- an answer after some steps
  pub to_end_full : {reads : Runs ReadMark R} → MarkLaws reads
      → {x z : ReadToEndFuture R A} {a : Poll (Result ℕ Error)}
      → (y : ReadToEndFuture R A) × Reaches (ReadsSome ⊤ reads) x y × AnswersByRoom reads y a z
      → AnswersByRoom reads x a z
  to_end_full {reads} laws =
      steps_answer {answers = AnswersByRoom reads} (λ x y z a t h.
      let m = ToEndLacksRoom y.filled z.filled y in
      let n = ToEndLacksRoom x.filled z.filled x in
      let ran = h.0 in (
        record {
          gathered =
              step_before n laws x y z a (takes_alike (λ v p q b h. h) x y t)
              (gathers_weaker (λ v. appends_weaker v.start (λ g. m) (λ g. n) (λ g. lacks_sooner x y z t.stays.1))
              y z (a ∷ []) ran.gathered);
          grows = λ w. grows_join x y z t.stays.1 (ran.grows w);
        },
        h.1,
      ))

-- the vector after a poll that was pending, behind which the room is cut off
pub vector_grows : {R A : Type 0} (x z : ReadToEndFuture R A) (n : ℕ) (v : Vec ℕ A) → n ≡ length x.buf.now.items
    → v.items ≡ read_front z → vec_capacity v ≡ vec_capacity z.buf.now → ToEndGrows (record x { filled = n }) z
    → VectorGrows x (record z { buf = record z.buf { now = v } })
vector_grows x z n v all cut same h =
    let long = ap length cut in
    let front = length-take-le z.filled z.buf.now.items h.within in
    record {
      items = omega (arith, long, front, all, h.filled);
      capacity = omega (arith, same, h.capacity);
      room = omega (arith, long, front, all, h.filled, h.room);
    }
