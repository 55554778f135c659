-- Laws of whole sessions.
use Rattle.std.specs.Prelude.{◌≡◌, ◌⊎◌, false, ℕ, List, [], ◌∷◌, ◌++◌, Option, Some, None, Ok, Err, map, refl}
use Rattle.std.specs.List.{FoldsTo}
use Rattle.std.specs.declared.io.Error.{Error}
use Rattle.std.proofs.Common.{◌∙◌, ap, append-nil, append_assoc, inl, inr, subst, sym}
use Rattle.std.proofs.lemmas.List.{map-append}
use Rattle.framed.specs.Uses.{MarkLaws, ReadMark, Ready, Runs, ToldStripped, WriteMark, bytes, bytes_taken}
use Rattle.framed.specs.Uses.{flushes_both, taken_both}
use Rattle.tokio_util.specs.Codec.Next.{Gives, PartialHasNoFrame, at_end, decoded}
use Rattle.framed.specs.Dialogues.{Dialogue, EndsBy, FrameByFrame, FramesOf, FrontOf, EachGoesOn, answers_from}
use Rattle.framed.specs.FrameLaws.{not_after}
use Rattle.lent_frames.specs.LendingLaws.{join_marks}
use Rattle.framed.specs.Frames.{FrameStep, Framed, ending, reading}
use Rattle.framed.specs.ServiceLaws.{going_on, serves_as}
use Rattle.framed.specs.Services.{AnswerOf, AnswersAll, LastWords, ServesAs, all_of}
use Rattle.framed.specs.Serving.{Performs, ServeEnds, Session}
use Rattle.framed.specs.ServingLaws.{as_item, encodes_both, served_to_end}
use Rattle.framed.specs.ToldLaws.{stripped_laws}

module _ {A : Type 0} (frame_of : A → List ℕ → Type 0) where
  one_more_frame : (items : List A) (xs : List ℕ) (v : A) (frame : List ℕ) → FramesOf frame_of items xs → frame_of v frame
      → FramesOf frame_of (items ++ v ∷ []) (xs ++ frame)
  one_more_frame [] xs v frame h k = (frame, [], k, refl, rw h (sym (append-nil frame)))
  one_more_frame (item ∷ items) xs v frame (one, rest, is, more, cut) k = (
    one,
    rest ++ frame,
    is,
    one_more_frame items rest v frame more k,
    ap (λ l. l ++ frame) cut ∙ append_assoc one rest frame,
  )

module _ {T D A E : Type 0} (gives : Gives D A E) (from_gives : Error → E → Type 0) (told : Runs ReadMark T)
    (runs : MarkLaws told) (idle : D → Type 0) (frame_of : A → List ℕ → Type 0)
    (laws : FrameByFrame frame_of gives idle) (x : Framed T D) where
  -- The frames of these items were read from `x` on.
  pub data FramesRead (items : List A) (y : Framed T D) : Type 0 where
    so_far : (xs : List ℕ) → FramesOf frame_of items xs → idle y.decoder → y.phase ≡ reading → y.held ≡ [] → told x.reader (bytes xs) y.reader → FramesRead items y
    to_the_end : (xs : List ℕ) → FramesOf frame_of items xs → idle y.decoder → y.phase ≡ ending → told x.reader (bytes (xs ++ y.held) ++ ReadMark.end ∷ []) y.reader → FramesRead items y

  join_told : (m y : Framed T D) (xs ys : List ℕ) (last : List ReadMark) → told x.reader (bytes xs) m.reader
      → told m.reader (bytes ys ++ last) y.reader → told x.reader (bytes (xs ++ ys) ++ last) y.reader
  join_told m y xs ys last h k =
      subst (λ l. told x.reader l y.reader) (join_marks xs ys last) (runs.follows _ _ _ _ _ h k)

  front_at_end : (c : D) (xs : List ℕ) (v : A) (t : D) (ys : List ℕ) → idle c
      → gives c xs (decoded (Ok v) t ys) ⊎ gives c xs (at_end (Ok (Some v)) t ys) → idle t × FrontOf frame_of v xs ys
  front_at_end c xs v t ys is (inl g) = laws.next c xs v t ys is g
  front_at_end c xs v t ys is (inr g) = laws.last c xs v t ys is g

  next_read : (items : List A) (m y : Framed T D) (v : A) → FramesRead items m
      → FrameStep gives from_gives told m (Ready (Some (Ok v))) y → FramesRead (items ++ v ∷ []) y
  next_read items m y v (so_far xs of is phase none came) (inl (r, same, after)) = absurd (not_after gives m y r phase after)
  next_read items m y v (so_far xs of is phase none came) (inr (_, ys, last, next, inl k)) =
      let front = laws.next _ _ v _ _ is (rw none at k.1.3) in
      let whole : ys ≡ front.1.0 = front.1.2 ∙ append-nil front.1.0 in
      so_far (xs ++ ys) (one_more_frame frame_of items xs v ys of (rw (← whole) at front.1.1)) front.0 k.1.0 k.1.1
      (subst (λ l. told x.reader l y.reader) (append-nil _) (join_told m y xs ys [] came (rw k.0 at next)))
  next_read items m y v (so_far xs of is phase none came) (inr (_, ys, last, next, inr k)) =
      let front = laws.last _ _ v _ _ is (rw none at k.1.1) in
      to_the_end (xs ++ front.1.0) (one_more_frame frame_of items xs v front.1.0 of front.1.1) front.0 k.1.0
      (subst (λ l. told x.reader (bytes l ++ ReadMark.end ∷ []) y.reader)
      (ap (λ l. xs ++ l) front.1.2 ∙ sym (append_assoc xs front.1.0 y.held))
      (join_told m y xs ys (ReadMark.end ∷ []) came (rw k.0 at next)))
  next_read items m y v (to_the_end xs of is phase came) (inl (r, same, inl after)) = let e = after.0 in cc
  next_read items m y v (to_the_end xs of is phase came) (inl (None, same, inr after)) = cc same
  next_read items m y v (to_the_end xs of is phase came) (inl (Some (Err e), same, inr after)) = cc same
  next_read items m y v (to_the_end xs of is phase came) (inl (Some (Ok w), same, inr after)) =
      let one : w ≡ v = cc same in
      let front = front_at_end _ _ v _ _ is (rw (append-nil m.held, one) at after.1.1) in
      to_the_end (xs ++ front.1.0) (one_more_frame frame_of items xs v front.1.0 of front.1.1) front.0 after.1.0
      (rw after.2
      (subst (λ l. told x.reader (bytes l ++ ReadMark.end ∷ []) m.reader)
      (ap (λ l. xs ++ l) front.1.2 ∙ sym (append_assoc xs front.1.0 y.held)) came))
  next_read items m y v (to_the_end xs of is phase came) (inr h) = let e = h.0 in cc

  pub all_read : (before items : List A) (m y : Framed T D) → FramesRead before m
      → FoldsTo (λ s item t. FrameStep gives from_gives told s (Ready (Some (Ok item))) t) m items y
      → FramesRead (before ++ items) y
  all_read before [] m y h same = rw (append-nil before) (rw same at h)
  all_read before (v ∷ items) m y h (n, step, more) =
      subst (λ l. FramesRead l y) (append_assoc before (v ∷ []) items)
      (all_read (before ++ v ∷ []) items n y (next_read before m n v h step) more)

  end_read : (items : List A) (m y : Framed T D) → FramesRead items m → FrameStep gives from_gives told m (Ready None) y
      → (xs : List ℕ) × FramesOf frame_of items xs × told x.reader (bytes xs ++ ReadMark.end ∷ []) y.reader
  end_read items m y (so_far xs of is phase none came) (inl (r, same, after)) = absurd (not_after gives m y r phase after)
  end_read items m y (so_far xs of is phase none came) (inr (_, ys, last, next, k)) =
      let all : ys ≡ [] = laws.end _ _ _ _ is (rw none at k.1.1) in
      (xs, of, rw (append-nil xs) at (rw all at (join_told m y xs ys (ReadMark.end ∷ []) came (rw k.0 at next))))
  end_read items m y (to_the_end xs of is phase came) (inl (r, same, inl after)) = let e = after.0 in cc
  end_read items m y (to_the_end xs of is phase came) (inl (Some v, same, inr after)) = cc same
  end_read items m y (to_the_end xs of is phase came) (inl (None, same, inr after)) =
      let all : m.held ≡ [] = laws.end _ _ _ _ is (rw (append-nil m.held) at after.1.1) in
      (xs, of, rw after.2 (rw (append-nil xs) at (rw all at came)))
  end_read items m y (to_the_end xs of is phase came) (inr h) = let e = h.0 in cc

  pub none_read : idle x.decoder → x.phase ≡ reading → x.held ≡ [] → FramesRead [] x
  none_read is phase none = so_far [] refl is phase none (runs.rests x.reader)

-- The request that was last, if there was one.
abbrev the_last : {A : Type 0} → Option A → List A
the_last None = []
the_last (Some request) = request ∷ []

module _ {S P Q : Type 0} (step : S → P → AnswerOf Q × S) where
  answers_append : (s : S) (requests more : List P) → answers_from step s (requests ++ more)
      ≡ (
        (answers_from step s requests).0 ++ (answers_from step (answers_from step s requests).1 more).0,
        (answers_from step (answers_from step s requests).1 more).1,
      )
  answers_append s [] more = refl
  answers_append s (request ∷ requests) more = rw (answers_append (step s request).1 requests more) refl

pub goes_on_each : {Q : Type 0} (replies : List (List Q)) → EachGoesOn (going_on replies)
goes_on_each [] = tt
goes_on_each (r ∷ replies) = (refl, goes_on_each replies)

-- The replies of answers, one behind another.
abbrev replies_in : {Q : Type 0} → List (AnswerOf Q) → List Q
replies_in answers = all_of (map (λ answer. answer.0) answers)

replies_append : {Q : Type 0} (answers more : List (AnswerOf Q)) → replies_in (answers ++ more) ≡ replies_in answers ++ replies_in more
replies_append [] more = refl
replies_append (answer ∷ answers) more =
    ap (λ l. answer.0 ++ l) (replies_append answers more) ∙ sym (append_assoc answer.0 (replies_in answers) (replies_in more))

pub told_each : {B Q : Type 0} (told : B → Q) (replies : List (List B)) → map told (all_of replies) ≡ replies_in (going_on (map (map told) replies))
told_each told [] = refl
told_each told (r ∷ replies) =
    map-append told r (all_of replies) ∙ ap (λ l. map told r ++ l) (told_each told replies)

-- What is unread at the end, behind a last request or behind none.
abbrev MarksAtEnd : {A : Type 0} → Option A → List ℕ → List ReadMark → Type 0
MarksAtEnd None unread marks = (unread ≡ []) × (marks ≡ ReadMark.end ∷ [])
MarksAtEnd (Some request) unread marks = ((unread ≡ []) × (marks ≡ [])) ⊎ (marks ≡ ReadMark.end ∷ [])

module _ {L S A B E P Q : Type 0} (asked : A → P) (told : B → Q) (holds : L → S) (step : S → P → AnswerOf Q × S)
    (refuses : LastWords L E B) where
  -- What was answered to some requests and to a last one, if there was one.
  record AnsweredToEnd (x y : L) (requests : List A) (last : Option A) (replies : List B) : Type 0 where
    answers : List (AnswerOf Q)
    by : (answers, holds y) ≡ answers_from step (holds x) (map asked (requests ++ the_last last))
    ends : (unread : List ℕ) (marks : List ReadMark) → MarksAtEnd last unread marks → EndsBy answers unread marks
    tells : map told replies ≡ replies_in answers

  all_answered : (x m y : L) (requests : List A) (replies : List (List B)) (last : Option A) (more : List B)
      → AnswersAll (ServesAs asked told holds step) x requests replies m
      → Performs (ServesAs asked told holds step) refuses m (as_item {E = E} last) more false y
      → AnsweredToEnd x y requests last (all_of replies ++ more)
  all_answered x m y requests replies None more h (none, _, same) =
      let each = serves_as asked told holds step x m requests replies h in
      record {
        answers = going_on (map (map told) replies);
        by = rw (append-nil requests, same) each;
        ends = λ unread marks last. inl (goes_on_each (map (map told) replies), last.0, last.1);
        tells = rw (none, append-nil (all_of replies)) (told_each told replies);
      }
  all_answered x m y requests replies (Some request) more h one =
      let each = serves_as asked told holds step x m requests replies h in
      let before = going_on (map (map told) replies) in
      record {
        answers = before ++ (map told more, false) ∷ [];
        by = rw (map-append asked requests (request ∷ []), answers_append step (holds x) (map asked requests) (asked request ∷ []), ← each, ← one) refl;
        ends = λ unread marks last. inr (before, map told more, refl, goes_on_each (map (map told) replies), last);
        tells = map-append told (all_of replies) more ∙ ap (λ l. l ++ map told more) (told_each told replies)
            ∙ sym (replies_append before ((map told more, false) ∷ []) ∙ ap (λ l. replies_in before ++ l) (append-nil (map told more)));
      }

module _ {T D A E : Type 0} (gives : Gives D A E) (from_gives : Error → E → Type 0) (told : Runs ReadMark T)
    (runs : MarkLaws told) (idle : D → Type 0) (frame_of : A → List ℕ → Type 0)
    (laws : FrameByFrame frame_of gives idle) (x : Framed T D) where
  -- What was read in all.
  record ReadInAll (requests : List A) (last : Option A) (y : Framed T D) : Type 0 where
    came : List ℕ
    unread : List ℕ
    marks : List ReadMark
    told_all : told x.reader (bytes (came ++ unread) ++ marks) y.reader
    frames : FramesOf frame_of (requests ++ the_last last) came
    marked : MarksAtEnd last unread marks

  last_read : (requests : List A) (last : Option A) (m y : Framed T D)
      → FramesRead gives from_gives told runs idle frame_of laws x requests m
      → FrameStep gives from_gives told m (Ready (as_item last)) y → ReadInAll requests last y
  last_read requests None m y h step =
      let all = end_read gives from_gives told runs idle frame_of laws x requests m y h step in
      record {
        came = all.0;
        unread = [];
        marks = ReadMark.end ∷ [];
        told_all = rw (append-nil all.0) all.2;
        frames = rw (append-nil requests) all.1;
        marked = (refl, refl);
      }
  last_read requests (Some request) m y h step =
      read_with_last requests request y (next_read gives from_gives told runs idle frame_of laws x requests m y request h step)
    where
      read_with_last : (requests : List A) (request : A) (y : Framed T D)
          → FramesRead gives from_gives told runs idle frame_of laws x (requests ++ request ∷ []) y → ReadInAll requests (Some request) y
      read_with_last requests request y (so_far xs of is phase none came) =
          record {
            came = xs;
            unread = [];
            marks = [];
            told_all = rw (append-nil xs, append-nil (bytes xs)) came;
            frames = of;
            marked = inl (refl, refl);
          }
      read_with_last requests request y (to_the_end xs of is phase came) =
          record {
            came = xs;
            unread = y.held;
            marks = ReadMark.end ∷ [];
            told_all = came;
            frames = of;
            marked = inr refl;
          }

module _ {T D O C L S A E B F P Q : Type 0} (gives : Gives D A E) (from_gives : Error → E → Type 0) (reads : Runs ReadMark T)
    (buffer_of : T → List ℕ) (writes : Runs WriteMark O) (encodes : C → B → List ℕ → C → Type 0)
    (rejects : C → B → ℕ → F → Type 0) (asked : A → P) (told : B → Q) (holds : L → S) (step : S → P → AnswerOf Q × S)
    (refuses : LastWords L E B) (idle : D → Type 0) (frame_of : A → List ℕ → Type 0)
    (laws : FrameByFrame frame_of gives idle) (no_frame : PartialHasNoFrame gives) (read_laws : MarkLaws reads)
    (write_laws : MarkLaws writes) where
  -- A session that returned `Ok`, from a stream that was not read before.
  pub conversed : (x y : Session T D O C L) (u : Unit {0}) → idle x.requests.decoder → x.requests.phase ≡ reading
      → x.requests.held ≡ []
      → ServeEnds gives from_gives reads buffer_of writes encodes rejects (ServesAs asked told holds step) refuses x (Ok u) y
      → Dialogue reads writes frame_of encodes asked told holds step x y
  conversed x y u is phase none ends =
      let s = served_to_end gives from_gives reads buffer_of writes encodes rejects (ServesAs asked told holds step) refuses
      no_frame read_laws write_laws x y u ends in
      let runs = stripped_laws read_laws in
      let start = none_read gives from_gives (ToldStripped reads) runs idle frame_of laws x.requests is phase none in
      let all = all_read gives from_gives (ToldStripped reads) runs idle frame_of laws x.requests [] s.requests
      x.requests s.before.requests start s.served.read in
      let read = last_read gives from_gives (ToldStripped reads) runs idle frame_of laws x.requests s.requests s.last
      s.before.requests y.requests all s.read in
      let answered = all_answered asked told holds step refuses x.service s.before.service y.service s.requests
      s.served.replies s.last s.replies s.served.answered s.performed in
      let (took, wrote, only, these) = s.served.wrote in
      record {
        requests = s.requests ++ the_last s.last;
        came = read.came;
        unread = read.unread;
        marks = read.marks;
        read = read.told_all;
        of_requests = read.frames;
        answers = answered.answers;
        answered = answered.by;
        ends = answered.ends read.unread read.marks read.marked;
        replies = all_of s.served.replies ++ s.replies;
        told_by = answered.tells;
        frames = s.served.frames ++ s.frames;
        encoded = encodes_both encodes _ _ _ (all_of s.served.replies) s.replies s.served.frames s.frames s.served.encoded s.encoded;
        took = took ++ s.took;
        wrote = write_laws.follows _ _ _ took s.took wrote s.wrote;
        whole = (
          flushes_both took s.took only s.whole.0,
          taken_both took s.took ∙ ap (λ l. l ++ bytes_taken s.took) these ∙ ap (λ l. s.served.frames ++ l) s.whole.1,
          (took ++ s.flushed.0, ap (λ l. took ++ l) s.flushed.1 ∙ sym (append_assoc took s.flushed.0 (WriteMark.flushed ∷ []))),
        );
      }
