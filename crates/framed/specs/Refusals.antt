-- A session of a server that stopped at an error of the input.
use Rattle.std.specs.Prelude.{◌≡◌, Bool, true, false, ℕ, List, [], ◌∷◌, ◌++◌, Some, None, Ok, Err, map}
use Rattle.std.specs.declared.io.Error.{Error}
use Rattle.std.proofs.Common.{◌∙◌, ap, append-nil, append_assoc, inl, inr, refl, subst, sym}
use Rattle.framed.specs.Uses.{EndsFlushed, MarkLaws, ReadMark, Ready, Runs, ToldStripped, WriteMark, WritesAndFlushes}
use Rattle.framed.specs.Uses.{bytes, bytes_taken, flushes_both, once_flushes, taken_both}
use Rattle.tokio_util.specs.Codec.Next.{Gives, PartialHasNoFrame}
use Rattle.tokio_util.specs.Codec.Whole.{EncodesAll}
use Rattle.framed.specs.DialogueLaws.{FramesRead, all_read, goes_on_each, none_read, so_far, to_the_end, told_each}
use Rattle.framed.specs.Dialogues.{FrameByFrame, FramesOf, EachGoesOn, answers_from}
use Rattle.framed.specs.FrameLaws.{not_after}
use Rattle.lent_frames.specs.LendingLaws.{join_marks}
use Rattle.framed.specs.Frames.{FrameStep, Framed, reading}
use Rattle.framed.specs.ServiceLaws.{going_on, serves_as}
use Rattle.framed.specs.Services.{AnswerOf, LastWords, ServesAs, all_of}
use Rattle.framed.specs.Serving.{ServeEnds, Session}
use Rattle.framed.specs.ServingLaws.{encodes_both, served_all, step_wrote, takes_next}
use Rattle.framed.specs.ToldLaws.{stripped_laws}
use Rattle.framed.specs.Whole.{StopsAt}
use Rattle.framed.specs.declared.serve_error.ServeError.TheVariants.{Input}

-- Why no frame came of the bytes `ys` and the marks `last` behind them. A decoder in such a state refuses the bytes, as they are or
-- as the end of the input. Or the reader failed, or memory was refused.
abbrev pub BreaksOff : {D A E : Type 0} → Gives D A E → (Error → E → Type 0) → (D → Type 0) → List ℕ → List ReadMark → E → Type 0
BreaksOff {D} gives from_gives idle ys last e = (d : D) × idle d × (ended : Bool) × StopsAt gives from_gives ended d ys last e

module _ {T D O C L S A E B P Q : Type 0} (gives : Gives D A E) (from_gives : Error → E → Type 0) (idle : D → Type 0)
    (reads : Runs ReadMark T) (writes : Runs WriteMark O) (frame_of : A → List ℕ → Type 0) (encodes : C → B → List ℕ → C → Type 0) (asked : A → P) (told : B → Q) (holds : L → S)
    (step : S → P → AnswerOf Q × S) (refuses : LastWords L E B) where
  -- The reader gave the frames of these requests, and then bytes of which no frame came, and why. The requests were answered in turn by `step`, and the
  -- service said its last words to the error. The writer took the frames of all replies and of these words, and then a flush.
  pub record Refusal (x y : Session T D O C L) (e : E) : Type 0 where
    pub requests : List A
    pub came : List ℕ
    pub behind : List ℕ
    pub last : List ReadMark
    pub read : ToldStripped reads x.requests.reader (bytes came ++ (bytes behind ++ last)) y.requests.reader
    pub why : BreaksOff gives from_gives idle behind last e
    pub of_requests : FramesOf frame_of requests came
    pub at : L
    pub answers : List (AnswerOf Q)
    pub answered : (answers, holds at) ≡ answers_from step (holds x.service) (map asked requests)
    pub goes_on : EachGoesOn answers
    pub replies : List B
    pub told_by : map told replies ≡ all_of (map (λ answer. answer.0) answers)
    pub words : List B
    pub said : refuses at e (Some words) y.service
    pub frames : List ℕ
    pub encoded : EncodesAll encodes x.encoder (replies ++ words) frames y.encoder
    pub took : List WriteMark
    pub wrote : writes x.replies took y.replies
    pub whole : WritesAndFlushes took × (bytes_taken took ≡ frames) × EndsFlushed took

module _ {T D A E : Type 0} (gives : Gives D A E) (from_gives : Error → E → Type 0) (told : Runs ReadMark T)
    (runs : MarkLaws told) (idle : D → Type 0) (frame_of : A → List ℕ → Type 0)
    (laws : FrameByFrame frame_of gives idle) (x : Framed T D) where
  error_read : (items : List A) (m y : Framed T D) (e : E)
      → FramesRead gives from_gives told runs idle frame_of laws x items m
      → FrameStep gives from_gives told m (Ready (Some (Err e))) y
      → (xs : List ℕ) × (ys : List ℕ) × (last : List ReadMark) × FramesOf frame_of items xs
      × told x.reader (bytes xs ++ (bytes ys ++ last)) y.reader × BreaksOff gives from_gives idle ys last e
  error_read items m y e (so_far xs of is phase none came) (inl (r, same, after)) = absurd (not_after gives m y r phase after)
  error_read items m y e (so_far xs of is phase none came) (inr (_, ys, last, next, inl k)) =
      (xs, ys, last, of, runs.follows _ _ _ _ _ came next, (m.decoder, is, false, inl (k.0, _, _, rw none at k.1.1)))
  error_read items m y e (so_far xs of is phase none came) (inr (_, ys, last, next, inr (inl k))) =
      (xs, ys, last, of, runs.follows _ _ _ _ _ came next, (m.decoder, is, true, (k.0, (_, _, rw none at k.1.1))))
  error_read items m y e (so_far xs of is phase none came) (inr (_, ys, last, next, inr (inr k))) =
      (xs, ys, last, of, runs.follows _ _ _ _ _ came next, (m.decoder, is, false, inr k.0))
  error_read items m y e (to_the_end xs of is phase came) (inl (r, same, inl after)) = let k = after.0 in cc
  error_read items m y e (to_the_end xs of is phase came) (inl (None, same, inr after)) = cc same
  error_read items m y e (to_the_end xs of is phase came) (inl (Some (Ok v), same, inr after)) = cc same
  error_read items m y e (to_the_end xs of is phase came) (inl (Some (Err f), same, inr after)) =
      let one : f ≡ e = cc same in (
        xs,
        m.held,
        ReadMark.end ∷ [],
        of,
        rw after.2 (subst (λ l. told x.reader l m.reader) (sym (join_marks xs m.held (ReadMark.end ∷ []))) came),
        (m.decoder, is, true, (refl, (_, _, rw (append-nil m.held, one) at after.1.1))),
      )
  error_read items m y e (to_the_end xs of is phase came) (inr h) = let k = h.0 in cc

module _ {T D O C L S A E B F P Q : Type 0} (gives : Gives D A E) (from_gives : Error → E → Type 0) (reads : Runs ReadMark T)
    (buffer_of : T → List ℕ) (writes : Runs WriteMark O) (encodes : C → B → List ℕ → C → Type 0)
    (rejects : C → B → ℕ → F → Type 0) (asked : A → P) (told : B → Q) (holds : L → S) (step : S → P → AnswerOf Q × S)
    (refuses : LastWords L E B) (idle : D → Type 0) (frame_of : A → List ℕ → Type 0)
    (laws : FrameByFrame frame_of gives idle) (no_frame : PartialHasNoFrame gives) (read_laws : MarkLaws reads)
    (write_laws : MarkLaws writes) where
  -- A session that stopped at an error of the input, from a stream that was not read before.
  pub refused_at : (x y : Session T D O C L) (e : E) → idle x.requests.decoder → x.requests.phase ≡ reading
      → x.requests.held ≡ []
      → ServeEnds gives from_gives reads buffer_of writes encodes rejects (ServesAs asked told holds step) refuses x (Err (Input e)) y
      → Refusal gives from_gives idle reads writes frame_of encodes asked told holds step refuses x y e
  refused_at x y e is phase none (requests, m, served, (n, stop, (took, came, no_bytes, once), same, encoder, service)) =
      let all = served_all gives from_gives reads buffer_of writes encodes rejects (ServesAs asked told holds step) refuses
      no_frame read_laws write_laws x requests m served in
      let runs = stripped_laws read_laws in
      let start = none_read gives from_gives (ToldStripped reads) runs idle frame_of laws x.requests is phase none in
      let frames_read = all_read gives from_gives (ToldStripped reads) runs idle frame_of laws x.requests [] requests
      x.requests m.requests start all.read in
      let next = takes_next gives from_gives reads buffer_of writes encodes rejects (ServesAs asked told holds step) refuses
      no_frame read_laws write_laws _ _ _ _ (Some (Err e)) stop.turned.0 in
      let read = error_read gives from_gives (ToldStripped reads) runs idle frame_of laws x.requests requests m.requests
      y.requests e frames_read (rw same next) in
      let last = step_wrote gives from_gives reads buffer_of writes encodes rejects (ServesAs asked told holds step) refuses
      no_frame read_laws write_laws (Some (Err e)) false m n stop in
      let (first, wrote, only, these) = all.wrote in
      record {
        requests = requests;
        came = read.0;
        behind = read.1;
        last = read.2;
        read = read.4;
        why = read.5;
        of_requests = read.3;
        at = m.service;
        answers = going_on (map (map told) all.replies);
        answered = serves_as asked told holds step x.service m.service requests all.replies all.answered;
        goes_on = goes_on_each (map (map told) all.replies);
        replies = all_of all.replies;
        told_by = told_each told all.replies;
        words = stop.replies;
        said = rw service stop.turned.1.0;
        frames = all.frames ++ stop.sent.0;
        encoded = rw encoder (encodes_both encodes _ _ _ (all_of all.replies) stop.replies all.frames stop.sent.0 all.encoded stop.sent.1);
        took = first ++ (last.0 ++ took);
        wrote = write_laws.follows _ _ _ first (last.0 ++ took) wrote (write_laws.follows _ _ _ last.0 took last.1 came);
        whole = (
          flushes_both first (last.0 ++ took) only (flushes_both last.0 took last.2 (once_flushes took once)),
          taken_both first (last.0 ++ took) ∙ ap (λ l. l ++ bytes_taken (last.0 ++ took)) these
              ∙ ap (λ l. all.frames ++ l) (taken_both last.0 took ∙ ap (λ l. bytes_taken last.0 ++ l) no_bytes ∙ append-nil (bytes_taken last.0) ∙ last.3),
          (
            first ++ (last.0 ++ once.0),
            ap (λ l. first ++ (last.0 ++ l)) once.2 ∙ ap (λ l. first ++ l) (sym (append_assoc last.0 once.0 (WriteMark.flushed ∷ [])))
                ∙ sym (append_assoc first (last.0 ++ once.0) (WriteMark.flushed ∷ [])),
          ),
        );
      }
