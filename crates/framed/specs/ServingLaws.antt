-- What a run of whole steps of a server read, performed and wrote in all.
use Rattle.std.specs.Prelude.{◌≡◌, ℕ, Bool, false, List, [], ◌∷◌, ◌++◌, Option, Some, None, Result, Ok, refl}
use Rattle.std.specs.List.{FoldsTo}
use Rattle.std.specs.declared.io.Error.{Error}
use Rattle.std.proofs.Common.{◌∙◌, append-nil, append_assoc, ap, inl, inr, sym}
use Rattle.framed.specs.Uses.{EndsFlushed, MarkLaws, ReadMark, Ready, Runs, ToldStripped, WriteMark, WritesAndFlushes}
use Rattle.framed.specs.Uses.{bytes_taken, flushes_both, once_flushes, taken_both}
use Rattle.lite_write.proofs.Handed.{only_flushes}
use Rattle.tokio_util.specs.Codec.Next.{Gives, PartialHasNoFrame}
use Rattle.tokio_util.specs.Codec.Whole.{EncodesAll}
use Rattle.framed.specs.Frames.{FrameStep, Framed}
use Rattle.framed.specs.Sending.{FlushesOnce}
use Rattle.framed.specs.Services.{AnswersAll, LastWords, ServiceStep, all_of}
use Rattle.framed.specs.Serving.{Performs, ServeEnds, ServesEach, Session, Step, TakesNextItem}
use Rattle.framed.specs.ToldLaws.{hand_told, then_hand_told}

-- The frames of some items and then of others.
pub encodes_both : {C X : Type 0} (encodes : C → X → List ℕ → C → Type 0) (c d e : C) (xs ys : List X) (frames more : List ℕ)
    → EncodesAll encodes c xs frames d → EncodesAll encodes d ys more e → EncodesAll encodes c (xs ++ ys) (frames ++ more) e
encodes_both encodes c d e [] ys frames more h k = rw (h.0, ← h.1) k
encodes_both encodes c d e (x ∷ xs) ys frames more h k = (
  h.0,
  h.1,
  h.2 ++ more,
  h.3,
  ap (λ l. l ++ more) h.4 ∙ append_assoc h.0 h.2 more,
  encodes_both encodes h.1 d e xs ys h.2 more h.5 k,
)

-- The item of a request, or the end.
abbrev pub as_item : {A E : Type 0} → Option A → Option (Result A E)
as_item None = None
as_item (Some request) = Some (Ok request)

-- The writer took these bytes, by writes and flushes alone.
abbrev pub Wrote : {O : Type 0} → Runs WriteMark O → O → List ℕ → O → Type 0
Wrote writes w xs v = (took : List WriteMark) × writes w took v × WritesAndFlushes took × (bytes_taken took ≡ xs)

module _ {O : Type 0} (writes : Runs WriteMark O) (laws : MarkLaws writes) where
  wrote_none : (w : O) → Wrote writes w [] w
  wrote_none w = ([], laws.rests w, tt, refl)

  wrote_both : (w u v : O) (xs ys : List ℕ) → Wrote writes w xs u → Wrote writes u ys v → Wrote writes w (xs ++ ys) v
  wrote_both w u v xs ys h k = (
    h.0 ++ k.0,
    laws.follows _ _ _ h.0 k.0 h.1 k.1,
    flushes_both h.0 k.0 h.2 k.2,
    taken_both h.0 k.0 ∙ ap (λ l. l ++ bytes_taken k.0) h.3 ∙ ap (λ l. xs ++ l) k.3,
  )

module _ {T D O C S A E B F : Type 0} (gives : Gives D A E) (from_gives : Error → E → Type 0) (reads : Runs ReadMark T)
    (buffer_of : T → List ℕ) (writes : Runs WriteMark O) (encodes : C → B → List ℕ → C → Type 0)
    (rejects : C → B → ℕ → F → Type 0) (answers : ServiceStep S A B) (refuses : LastWords S E B) where
  -- Each request was read from the reader in turn. The service answered them in turn. The writer took exactly the frames
  -- of all these replies, one behind another.
  pub record ServedAll (x : Session T D O C S) (requests : List A) (y : Session T D O C S) : Type 0 where
    pub replies : List (List B)
    pub frames : List ℕ
    pub read : FoldsTo (λ s request t. FrameStep gives from_gives (ToldStripped reads) s (Ready (Some (Ok request))) t)
        x.requests requests y.requests
    pub answered : AnswersAll answers x.service requests replies y.service
    pub encoded : EncodesAll encodes x.encoder (all_of replies) frames y.encoder
    pub wrote : Wrote writes x.replies frames y.replies

  -- Serving that returned `Ok`: requests behind each of which the service went on, then the end of the input, or a request
  -- behind which the service ended. The writer took the frames of all replies, and a flush came last.
  pub record ServedToEnd (x y : Session T D O C S) : Type 0 where
    pub requests : List A
    pub before : Session T D O C S
    pub served : ServedAll x requests before
    pub last : Option A
    pub read : FrameStep gives from_gives (ToldStripped reads) before.requests (Ready (as_item last)) y.requests
    pub replies : List B
    pub performed : Performs answers refuses before.service (as_item last) replies false y.service
    pub frames : List ℕ
    pub encoded : EncodesAll encodes before.encoder replies frames y.encoder
    pub took : List WriteMark
    pub wrote : writes before.replies took y.replies
    pub whole : WritesAndFlushes took × (bytes_taken took ≡ frames)
    pub flushed : EndsFlushed took

  module _ (no_frame : PartialHasNoFrame gives) (read_laws : MarkLaws reads) (write_laws : MarkLaws writes) where
    -- An item was taken.
    abbrev Taking : Framed T D → O → Option (Result A E) → Framed T D → O → Type 0
    Taking = TakesNextItem gives from_gives reads buffer_of writes

    -- An item that was taken is the next one of the reader.
    pub takes_next : (x y : Framed T D) (w v : O) (item : Option (Result A E)) → Taking x w item y v
        → FrameStep gives from_gives (ToldStripped reads) x (Ready item) y
    takes_next x y w v item (inl h) = hand_told gives from_gives reads no_frame read_laws buffer_of x y item h.0
    takes_next x y w v item (inr (m, pending, flushed, h)) =
        then_hand_told gives from_gives reads no_frame read_laws buffer_of x m y item pending h

    takes_flushed : (x y : Framed T D) (w v : O) (item : Option (Result A E)) → Taking x w item y v → Wrote writes w [] v
    takes_flushed x y w v item (inl h) = rw h.1 (wrote_none writes write_laws w)
    takes_flushed x y w v item (inr (m, pending, (took, came, none, once), h)) = (took, came, once_flushes took once, none)

    -- A whole step wrote the frames of its replies.
    pub step_wrote : (item : Option (Result A E)) (on : Bool) (x y : Session T D O C S)
        → (step : Step gives from_gives reads buffer_of writes encodes rejects answers refuses item on x y)
        → Wrote writes x.replies step.sent.0 y.replies
    step_wrote item on x y step =
        let (frames, encoded, (took, (came, front), (only, all))) = step.sent in
        wrote_both writes write_laws _ _ _ [] frames (takes_flushed _ _ _ _ item step.turned.0)
        (took, came, only_flushes took only, all)

    -- What a run of whole steps did in all.
    pub served_all : (x : Session T D O C S) (requests : List A) (y : Session T D O C S)
        → ServesEach gives from_gives reads buffer_of writes encodes rejects answers refuses x requests y → ServedAll x requests y
    served_all x [] y h =
        rw (← h)
        record {
          replies = [];
          frames = [];
          read = refl;
          answered = refl;
          encoded = (refl, refl);
          wrote = wrote_none writes write_laws x.replies;
        }
    served_all x (request ∷ requests) y (m, step, h) =
        let more = served_all m requests y h in
        let (frames, encoded, handed) = step.sent in
        record {
          replies = step.replies ∷ more.replies;
          frames = frames ++ more.frames;
          read = (m.requests, takes_next _ _ _ _ _ step.turned.0, more.read);
          answered = (m.service, step.turned.1, more.answered);
          encoded = encodes_both encodes _ _ _ step.replies (all_of more.replies) frames more.frames encoded more.encoded;
          wrote = wrote_both writes write_laws _ _ _ frames more.frames (step_wrote _ _ x m step) more.wrote;
        }

    at_end : (x m n y : Session T D O C S) (requests : List A)
        → ServesEach gives from_gives reads buffer_of writes encodes rejects answers refuses x requests m → (last : Option A)
        → Step gives from_gives reads buffer_of writes encodes rejects answers refuses (as_item last) false m n
        → FlushesOnce writes n.replies (Ok tt) y.replies → y.requests ≡ n.requests → y.encoder ≡ n.encoder
        → y.service ≡ n.service → ServedToEnd x y
    at_end x m n y requests served last step (took, came, none, once) same encoder service =
        let w = step_wrote (as_item last) false m n step in
        record {
          requests = requests;
          before = m;
          served = served_all x requests m served;
          last = last;
          read = rw same (takes_next _ _ _ _ (as_item last) step.turned.0);
          replies = step.replies;
          performed = rw service step.turned.1;
          frames = step.sent.0;
          encoded = rw encoder step.sent.1;
          took = w.0 ++ took;
          wrote = write_laws.follows _ _ _ w.0 took w.1 came;
          whole = (
            flushes_both w.0 took w.2 (once_flushes took once),
            taken_both w.0 took ∙ ap (λ l. bytes_taken w.0 ++ l) none ∙ append-nil (bytes_taken w.0) ∙ w.3,
          );
          flushed = (w.0 ++ once.0, ap (λ l. w.0 ++ l) once.2 ∙ sym (append_assoc w.0 once.0 (WriteMark.flushed ∷ [])));
        }

    -- What serving did in all if it returned `Ok`.
    pub served_to_end : (x y : Session T D O C S) (u : Unit {0})
        → ServeEnds gives from_gives reads buffer_of writes encodes rejects answers refuses x (Ok u) y → ServedToEnd x y
    served_to_end x y u (requests, m, served, (n, inl step, flush, same, encoder, service)) =
        at_end x m n y requests served None step flush same encoder service
    served_to_end x y u (requests, m, served, (n, inr (request, step), flush, same, encoder, service)) =
        at_end x m n y requests served (Some request) step flush same encoder service
