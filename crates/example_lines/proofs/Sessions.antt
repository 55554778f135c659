-- A conversation of lines.
use Rattle.std.specs.Prelude.{◌≡◌, ℕ, List, [], ◌∷◌, ◌++◌, Result, Ok, Err, flat_map, map, refl}
use Rattle.std.specs.Global.{Vec}
use Rattle.std.specs.declared.io.Error.{Error}
use Rattle.std.proofs.Common.{◌∙◌, ap, append-nil, subst, sym}
use Rattle.std.proofs.lemmas.List.{map-append}
use Rattle.bytes.specs.Filled.{Filled}
use Rattle.futures_lite.specs.Marks.{ReadMark, WriteMark, bytes}
use Rattle.futures_lite.specs.Own.{MarkLaws, Runs}
use Rattle.futures_lite.specs.Readers.{ToldStripped}
use Rattle.tokio_util.specs.Codec.Next.{PartialHasNoFrame}
use Rattle.tokio_util.specs.Codec.Whole.{EncodesAll}
use Rattle.framed.specs.DialogueLaws.{conversed}
use Rattle.framed.specs.Dialogues.{Dialogue, EndsBy, FrameByFrame, FramesOf, EachGoesOn, answers_from}
use Rattle.framed.specs.FrameLaws.{join_marks}
use Rattle.framed.specs.FrameErrors.{SaysOutOfMemory}
use Rattle.framed.specs.Frames.{reading}
use Rattle.framed.specs.LineDelimited.{IsLongLine, LineOf, gives_line_delimited, with_newline}
use Rattle.framed.specs.Refusals.{Refusal, refused_at}
use Rattle.framed.specs.Pieces.{pieces_by_frame, pieces_partial}
use Rattle.framed.specs.Services.{AnswerOf, ServesAs, all_of}
use Rattle.framed.specs.Serving.{ServeEnds, Session}
use Rattle.framed.specs.declared.FrameError.{FrameError}
use Rattle.framed.specs.declared.FrameError.TheVariants.{CutOff, Io}
use Rattle.framed.specs.declared.ServeError.{ServeError}
use Rattle.framed.specs.declared.ServeError.TheVariants.{Encode, Input, Memory, Output}
use Rattle.framed.specs.declared.LineDelimited.{LineDelimited}
use Rattle.example_lines.specs.Service.{SaysLast, last_lines, line_step}
use Rattle.example_lines.specs.Session.{BreaksALine, EndsWell, LineSession, LineSessionEnds, answers_to, encodes_lines, replies_to}
use Rattle.example_lines.specs.Store.{KeyValues, no_keys, stored}
use Rattle.example_lines.specs.declared.store.Store.{Store}

lines_of : (c : LineDelimited) (requests : List Filled) (xs : List ℕ) → FramesOf (λ v. LineOf c v.items) requests xs
    → FramesOf (LineOf c) (map (λ v. v.items) requests) xs
lines_of c [] xs h = h
lines_of c (v ∷ requests) xs (frame, rest, one, more, cut) = (frame, rest, one, lines_of c requests rest more, cut)

replies_are : (c d : LineDelimited) (replies : List (Vec ℕ)) (frames : List ℕ) → EncodesAll encodes_lines c replies frames d
    → frames ≡ flat_map with_newline (map (λ r. r.items) replies)
replies_are c d [] frames h = h.0
replies_are c d (r ∷ replies) frames (frame, next, rest, one, cut, more) =
    cut ∙ rw (one.1, replies_are next d replies rest more) refl

-- what is answered to the requests is answered to their lines
answers_are : (h : KeyValues) (requests : List Filled) (answers : List (AnswerOf (List ℕ))) (g : KeyValues) → h ≡ no_keys
    → (answers, g) ≡ answers_from line_step h (map (λ v. v.items) requests) → answers ≡ answers_to (map (λ v. v.items) requests)
answers_are h requests answers g empty is =
    subst (λ k. answers ≡ (answers_from line_step k (map (λ v. v.items) requests)).0) empty
    (ap (λ (o : List (AnswerOf (List ℕ)) × KeyValues). o.0) is)

module _ {T O : Type 0} (reads : Runs ReadMark T) (writes : Runs WriteMark O) (x y : Session T LineDelimited O LineDelimited Store)
    (empty : stored x.service ≡ no_keys) where
  line_session : Dialogue reads writes (λ (v : Filled). LineOf x.requests.decoder v.items) encodes_lines (λ v. v.items)
      (λ r. r.items) stored line_step x y
      → LineSession reads writes x.requests x.replies y.requests y.replies EndsWell []
  line_session s =
      let all = answers_are (stored x.service) s.requests s.answers (stored y.service) empty s.answered in
      record {
        lines = map (λ v. v.items) s.requests;
        came = s.came;
        of_lines = lines_of x.requests.decoder s.requests s.came s.of_requests;
        behind = bytes s.unread ++ s.marks;
        read = subst (λ l. ToldStripped reads x.requests.reader l y.requests.reader) (sym (join_marks s.came s.unread s.marks)) s.read;
        ended = (s.unread, s.marks, subst (λ a. EndsBy a s.unread s.marks) all s.ends, refl);
        took = s.took;
        wrote = s.wrote;
        replied = s.whole.1 ∙ replies_are _ _ s.replies s.frames s.encoded
            ∙ ap (flat_map with_newline)
            (s.told_by ∙ ap (λ a. all_of (map (λ answer. answer.0) a)) all ∙ sym (append-nil (replies_to (map (λ v. v.items) s.requests))));
        flushed = s.whole.2;
      }

  stopped_session : (e : FrameError)
      → Refusal gives_line_delimited (λ given error. error ≡ Io given) (λ d. d ≡ x.requests.decoder) reads writes (λ (v : Filled). LineOf x.requests.decoder v.items) encodes_lines (λ v. v.items) (λ r. r.items)
      stored line_step SaysLast x y e
      → LineSession reads writes x.requests x.replies y.requests y.replies
      (λ answers behind. EachGoesOn answers × BreaksALine x.requests.decoder behind e) (last_lines e)
  stopped_session e s =
      let all = answers_are (stored x.service) s.requests s.answers (stored s.at) empty s.answered in
      record {
        lines = map (λ v. v.items) s.requests;
        came = s.came;
        of_lines = lines_of x.requests.decoder s.requests s.came s.of_requests;
        behind = bytes s.behind ++ s.last;
        read = s.read;
        ended = (subst EachGoesOn all s.goes_on, (s.behind, s.last, refl, s.why));
        took = s.took;
        wrote = s.wrote;
        replied = s.whole.1 ∙ replies_are _ _ (s.replies ++ s.words) s.frames s.encoded
            ∙ ap (flat_map with_newline)
            (map-append (λ r. r.items) s.replies s.words
            ∙ ap (λ l. l ++ map (λ r. r.items) s.words) (s.told_by ∙ ap (λ a. all_of (map (λ answer. answer.0) a)) all)
            ∙ ap (λ l. replies_to (map (λ v. v.items) s.requests) ++ l) s.said.0);
        flushed = s.whole.2;
      }

-- what becomes of an error of the reader
abbrev from_gives : Error → FrameError → Type 0
from_gives given error = error ≡ Io given

module _ {T O : Type 0} (reads : Runs ReadMark T) (buffer_of : T → List ℕ)
    (writes : Runs WriteMark O) (rejects : LineDelimited → Vec ℕ → ℕ → FrameError → Type 0) (read_laws : MarkLaws reads)
    (write_laws : MarkLaws writes) (x y : Session T LineDelimited O LineDelimited Store) (phase : x.requests.phase ≡ reading)
    (none : x.requests.held ≡ []) (empty : stored x.service ≡ no_keys) where
  -- the laws of the decoder
  abbrev c : LineDelimited
  c = x.requests.decoder

  by_frame : FrameByFrame (λ (v : Filled). LineOf c v.items) gives_line_delimited (λ d. d ≡ c)
  by_frame = pieces_by_frame (λ c v. LineOf c v.items) IsLongLine SaysOutOfMemory (λ e. e ≡ CutOff) c

  no_frame : PartialHasNoFrame gives_line_delimited
  no_frame = pieces_partial (λ c v. LineOf c v.items) IsLongLine SaysOutOfMemory (λ e. e ≡ CutOff)

  pub session_ended : (r : Result (Unit {0}) (ServeError FrameError FrameError))
      → ServeEnds gives_line_delimited from_gives reads buffer_of writes encodes_lines rejects
      (ServesAs (λ (v : Filled). v.items) (λ r. r.items) stored line_step) SaysLast x r y
      → LineSessionEnds reads writes x.requests x.replies y.requests y.replies r
  session_ended (Ok u) ends =
      line_session reads writes x y empty
      (conversed gives_line_delimited from_gives reads buffer_of writes encodes_lines rejects (λ (v : Filled). v.items) (λ r. r.items)
      stored line_step SaysLast (λ d. d ≡ c) (λ (v : Filled). LineOf c v.items) by_frame no_frame read_laws write_laws x y u refl
      phase none ends)
  session_ended (Err (Input e)) ends =
      stopped_session reads writes x y empty e
      (refused_at gives_line_delimited from_gives reads buffer_of writes encodes_lines rejects (λ (v : Filled). v.items) (λ r. r.items)
      stored line_step SaysLast (λ d. d ≡ c) (λ (v : Filled). LineOf c v.items) by_frame no_frame read_laws write_laws x y e refl
      phase none ends)
  session_ended (Err (Output e)) ends = tt
  session_ended (Err (Encode e)) ends = tt
  session_ended (Err Memory) ends = tt
