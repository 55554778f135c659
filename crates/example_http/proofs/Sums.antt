-- What steps, one after another, read and wrote.
use Rattle.std.specs.Prelude.{◌≡◌, ℕ, Bool, true, false, List, [], ◌∷◌, ◌++◌, drop, length, take, Result, Ok, Err, refl, ◌≢◌, ◌⊎◌}
use Rattle.std.specs.List.{FoldsTo}
use Rattle.std.specs.declared.io.Error.{Error}
use Rattle.std.proofs.Common.{ap, append-nil, arith, append_assoc, inl, inr, subst, sym, take-append-drop, ◌∙◌}
use Rattle.std.proofs.lemmas.Bool.{ne_eqb}
use Rattle.std.proofs.lemmas.List.{map-append}
use Rattle.futures_lite.specs.Laws.Told.{taken_both, told_follow, told_none}
use Rattle.futures_lite.specs.Marks.{ReadMark, WriteMark, bytes, bytes_taken}
use Rattle.futures_lite.specs.Own.{MarkLaws, Runs}
use Rattle.futures_lite.specs.Readers.{StandsFirst, ToldStripped}
use Rattle.futures_lite.specs.Writers.{EndsFlushed, FailsAfter, FailsWith, FlushedUp, OnlyWrites, WritesAndFlushes}
use Rattle.http.specs.declared.request.Request.{Request}
use Rattle.http_server.specs.declared.response.Response.{Response}
use Rattle.http_server.specs.declared.state.Config.{Config}
use Rattle.http_server.specs.declared.state.State.TheVariants.{Aborted}
use Rattle.http_server.specs.Exchange.{Calls, Chain}
use Rattle.http_server.specs.History.{History, IsServed, after_read, output}
use Rattle.example_http.specs.Moving.{FlushesFirst, Moved, arrived}
use Rattle.example_http.specs.Serving.{AnswersGiven, ClosesSession, EndsSession, HandsOutput, IsWaiting, Serves, HttpSession, HttpStep, TakesMoreInput}
use Rattle.example_http.specs.Whole.{IsSent, ReadAt, Tells, WholeSession, WrittenAt}
use Rattle.example_http.specs.declared.http_error.HttpError.{HttpError}
use Rattle.example_http.specs.declared.http_error.HttpError.TheVariants.{Input, Memory, Output}

-- Marks.

-- The bytes of two parts, of which the second has one more mark.
bytes_then : (xs ys : List ℕ) (l k last : List ReadMark) → l ≡ bytes xs → k ≡ bytes ys ++ last
    → l ++ k ≡ bytes (xs ++ ys) ++ last
bytes_then xs ys l k last h j =
    ap (λ t. t ++ k) h ∙ ap (λ t. bytes xs ++ t) j ∙ sym (append_assoc (bytes xs) (bytes ys) last)
    ∙ ap (λ t. t ++ last) (sym (map-append ReadMark.byte xs ys))

bytes_alone : (xs ys : List ℕ) (l k : List ReadMark) → l ≡ bytes xs → k ≡ bytes ys → l ++ k ≡ bytes (xs ++ ys)
bytes_alone xs ys l k h j = rw (h, j) (sym (map-append ReadMark.byte xs ys))

tells_none : (was : Bool) → Tells was was [] []
tells_none true = (refl, refl, refl)
tells_none false = refl

tells_then : (a b c : Bool) (xs ys : List ℕ) (l k : List ReadMark) → Tells a b xs l → Tells b c ys k
    → Tells a c (xs ++ ys) (l ++ k)
tells_then true b c xs ys l k h j =
    let j' = subst (λ t. Tells t c ys k) h.0 j in (j'.0, rw (h.1, j'.1) refl, rw (h.2, j'.2) refl)
tells_then false false false xs ys l k h j = bytes_alone xs ys l k h j
tells_then false false true xs ys l k h j = bytes_then xs ys l k _ h j
tells_then false true true xs ys l k h j =
    rw (j.1, j.2) (append-nil l ∙ h ∙ ap (λ t. bytes t ++ ReadMark.end ∷ []) (sym (append-nil xs)))
tells_then false true false xs ys l k h j = cc j.0

-- No end of file had been seen.
none_seen : (a : Bool) (xs : List ℕ) (l : List ReadMark) → Tells a false xs l → (a ≡ false) × (l ≡ bytes xs)
none_seen true xs l h = cc h.0
none_seen false xs l h = (refl, h)

read_then : (a b c : Bool) (xs ys : List ℕ) (l k : List ReadMark) (r : Result (Unit {0}) HttpError) → Tells a b xs l
    → ReadAt b c ys k r → ReadAt a c (xs ++ ys) (l ++ k) r
read_then a b c xs ys l k (Ok u) h j = tells_then a b c xs ys l k h j
read_then a b c xs ys l k (Err (Output e)) h j = tells_then a b c xs ys l k h j
read_then a b c xs ys l k (Err (Input e)) h j =
    let n = none_seen a xs l (subst (λ t. Tells a t xs l) j.0 h) in (n.0, bytes_then xs ys l k _ n.1 j.1)
read_then a b c xs ys l k (Err Memory) h (inl j) = inl (tells_then a b c xs ys l k h j)
read_then a b c xs ys l k (Err Memory) h (inr (is, j)) =
    let n = none_seen a xs l (subst (λ t. Tells a t xs l) is h) in inr (n.0, bytes_then xs ys l k _ n.1 j)

-- Bytes that arrived, where no end of file had been seen.
tells_arrived : (h : History) (xs : List ℕ) → h.ended ≡ false → Tells h.ended (after_read h xs).ended xs (arrived xs)
tells_arrived h [] unseen = rw unseen refl
tells_arrived h (x ∷ xs) unseen = rw (unseen, ne_eqb (length (x ∷ xs)) 0 (omega arith)) refl

fine_both : (l m : List WriteMark) → WritesAndFlushes l → WritesAndFlushes m → WritesAndFlushes (l ++ m)
fine_both [] m h k = k
fine_both (WriteMark.pending ∷ l) m h k = fine_both l m h k
fine_both (WriteMark.wrote (x ∷ xs) ∷ l) m h k = fine_both l m h k
fine_both (WriteMark.flushed ∷ l) m h k = fine_both l m h k
fine_both (WriteMark.wrote [] ∷ l) m h k = absurd h
fine_both (WriteMark.fault kind ∷ l) m h k = absurd h
fine_both (WriteMark.closed ∷ l) m h k = absurd h
fine_both (WriteMark.nothing ∷ l) m h k = absurd h

only_fine : (l : List WriteMark) → OnlyWrites l → WritesAndFlushes l
only_fine [] h = tt
only_fine (WriteMark.pending ∷ l) h = only_fine l h
only_fine (WriteMark.wrote (x ∷ xs) ∷ l) h = only_fine l h
only_fine (WriteMark.flushed ∷ l) h = absurd h
only_fine (WriteMark.wrote [] ∷ l) h = absurd h
only_fine (WriteMark.fault kind ∷ l) h = absurd h
only_fine (WriteMark.closed ∷ l) h = absurd h
only_fine (WriteMark.nothing ∷ l) h = absurd h

flush_fine : (l : List WriteMark) → FlushedUp l (Ok tt) → WritesAndFlushes l
flush_fine l h = rw h.2 (fine_both h.0 (WriteMark.flushed ∷ []) (only_fine h.0 h.1) tt)

flush_last : (l : List WriteMark) → FlushedUp l (Ok tt) → EndsFlushed l
flush_last l h = (h.0, h.2)

ends_later : (l m : List WriteMark) → EndsFlushed m → EndsFlushed (l ++ m)
ends_later l m h = (l ++ h.0, rw h.1 (sym (append_assoc l h.0 _)))

fails_later : (l m : List WriteMark) (e : Error) → WritesAndFlushes l → FailsWith m e → FailsWith (l ++ m) e
fails_later l m e fine h =
    record {
      before = l ++ h.before;
      fine = fine_both l h.before fine h.fine;
      last = elim h.last [
        | inl is ↦ inl (rw is (sym (append_assoc l h.before _)))
        | inr is ↦ inr (rw is.0 (sym (append_assoc l h.before _)), is.1)
      ];
    }

only_fails : (l : List WriteMark) (e : Error) → FailsAfter OnlyWrites l e → FailsWith l e
only_fails l e h = record { before = h.before; fine = only_fine h.before h.fine; last = h.last }

-- The calls of a service.

chain_then : {S : Type 0} (answers : S → Request (List ℕ) → Response → S → Type 0) (x y z : S)
    (a b : List (Request (List ℕ) × Response)) → Chain answers x a y → Chain answers y b z → Chain answers x (a ++ b) z
chain_then answers x y z [] b h k = subst (λ t. Chain answers t b z) h k
chain_then answers x y z (c ∷ a) b h k = (h.0, h.1, chain_then answers h.0 y z a b h.2 k)

calls_then : {S : Type 0} (answers : S → Request (List ℕ) → Response → S → Type 0) (x y z : S)
    (a b c : List (Request (List ℕ) × Response)) → Calls answers x y a b → Calls answers y z b c → Calls answers x z a c
calls_then answers x y z a b c h k =
    (h.0 ++ k.0, k.1 ∙ ap (λ t. t ++ k.0) h.1 ∙ append_assoc a h.0 k.0, chain_then answers x y z h.0 k.0 h.2 k.2)

no_calls : {S : Type 0} (answers : S → Request (List ℕ) → Response → S → Type 0) (x y : S)
    (a b : List (Request (List ℕ) × Response)) → y ≡ x → b ≡ a → Calls answers x y a b
no_calls answers x y a b same is = ([], is ∙ sym (append-nil a), same)

-- What was moved in two parts.
abbrev pub both : Moved → Moved → Moved
both a b = record { told = a.told ++ b.told; took = a.took ++ b.took }

abbrev pub all_moved : List Moved → Moved
all_moved [] = record { told = []; took = [] }
all_moved (a ∷ l) = both a (all_moved l)

no_length : (xs : List ℕ) → length xs ≡ 0 → xs ≡ []
no_length [] h = refl
no_length (x ∷ xs) h = cc h

-- The writer's bytes after two parts.
sent_both : (start middle : List ℕ) (a b : List WriteMark) → middle ≡ start ++ bytes_taken a
    → start ++ bytes_taken (a ++ b) ≡ middle ++ bytes_taken b
sent_both start middle a b h =
    ap (λ t. start ++ t) (taken_both a b) ∙ sym (append_assoc start (bytes_taken a) (bytes_taken b))
    ∙ ap (λ t. t ++ bytes_taken b) (sym h)

-- A prefix of the first bytes that wait is one of all.
front_sent : (sent pending taken rest : List ℕ) (n : ℕ) → take n pending ≡ taken ++ rest
    → StandsFirst (sent ++ taken) (sent ++ pending)
front_sent sent pending taken rest n is = (
  rest ++ drop n pending,
  ap (λ t. sent ++ t) (sym (take-append-drop n pending) ∙ ap (λ t. t ++ drop n pending) is ∙ append_assoc taken rest _)
      ∙ sym (append_assoc sent taken _),
)

module _ {T O S : Type 0} (config : Config) (reads : Runs ReadMark T) (buffer_of : T → List ℕ) (writes : Runs WriteMark O)
    (answers : S → Request (List ℕ) → Response → S → Type 0) (read_laws : MarkLaws reads) (write_laws : MarkLaws writes) where
  -- What steps moved: all that was taken by the writer counts as sent.
  pub record Sums (x : HttpSession T O S) (moved : Moved) (y : HttpSession T O S) : Type 0 where
    pub read : ToldStripped reads x.reader moved.told y.reader
    pub came : List ℕ
    pub received : y.history.received ≡ x.history.received ++ came
    pub tells : Tells x.history.ended y.history.ended came moved.told
    pub wrote : writes x.writer moved.took y.writer
    pub calls : Calls answers x.service y.service x.history.calls y.history.calls
    pub sent : y.history.sent ≡ x.history.sent ++ bytes_taken moved.took
    pub fine : WritesAndFlushes moved.took

  read_nothing : (x y : T) (l : List ReadMark) → l ≡ [] → y ≡ x → ToldStripped reads x l y
  read_nothing x y l none same = rw (none, same) (told_none read_laws x)

  received_both : (x m y xs ys : List ℕ) → m ≡ x ++ xs → y ≡ m ++ ys → y ≡ x ++ (xs ++ ys)
  received_both x m y xs ys h j = j ∙ ap (λ t. t ++ ys) h ∙ append_assoc x xs ys

  sums_then : (x m y : HttpSession T O S) (a b : Moved) → Sums x a m → Sums m b y → Sums x (both a b) y
  sums_then x m y a b h k =
      record {
        read = told_follow read_laws x.reader m.reader y.reader a.told b.told h.read k.read;
        came = h.came ++ k.came;
        received = received_both _ _ _ h.came k.came h.received k.received;
        tells = tells_then _ _ _ h.came k.came a.told b.told h.tells k.tells;
        wrote = write_laws.follows x.writer m.writer y.writer a.took b.took h.wrote k.wrote;
        calls = calls_then answers _ _ _ _ _ _ h.calls k.calls;
        sent = k.sent ∙ sym (sent_both _ _ a.took b.took h.sent);
        fine = fine_both a.took b.took h.fine k.fine;
      }

  answered_sums : (x m : HttpSession T O S) → AnswersGiven config reads buffer_of writes answers x m → Sums x (all_moved []) m
  answered_sums x m a =
      record {
        read = read_nothing x.reader m.reader [] refl a.reader;
        came = [];
        received = a.quiet.0 ∙ sym (append-nil _);
        tells = subst (λ now. Tells x.history.ended now [] []) (sym a.quiet.1) (tells_none x.history.ended);
        wrote = rw a.writer (write_laws.rests x.writer);
        calls = a.calls;
        sent = a.quiet.2 ∙ sym (append-nil _);
        fine = tt;
      }

  hands_sums : (m y : HttpSession T O S) (moved : Moved) → HandsOutput config reads buffer_of writes answers m moved (Ok tt) y
      → Sums m moved y
  hands_sums m y moved ((n, some, ran, handed, is), none, reader, service) =
      record {
        read = read_nothing m.reader y.reader moved.told none reader;
        came = [];
        received = ap (λ (k : History). k.received) is ∙ sym (append-nil _);
        tells = subst (Tells m.history.ended y.history.ended []) (sym none)
            (subst (λ now. Tells m.history.ended now [] []) (sym (ap (λ (k : History). k.ended) is)) (tells_none m.history.ended));
        wrote = ran;
        calls = no_calls answers m.service y.service _ _ service (ap (λ (k : History). k.calls) is);
        sent = ap (λ (k : History). k.sent) is ∙ ap (λ t. m.history.sent ++ t) (sym handed.1);
        fine = only_fine moved.took handed.0;
      }

  first_wrote : (x : T) (w v : O) (took : List WriteMark) → FlushesFirst reads buffer_of writes x w took v
      → writes w took v × (bytes_taken took ≡ []) × WritesAndFlushes took
  first_wrote x w v took (inl f) = (f.0, f.2, flush_fine took f.1)
  first_wrote x w v took (inr f) = (rw (f.1, f.2) (write_laws.rests w), rw f.1 refl, rw f.1 tt)

  -- A connection that waits for input has seen no end of it.
  still_open : (x m : HttpSession T O S) → AnswersGiven config reads buffer_of writes answers x m → IsWaiting m.history
      → m.history.ended ≡ false
  still_open x m a (is_open, none) = (a.rests is_open (rw none (omega arith))).0

  more_sums : (m y : HttpSession T O S) (moved : Moved) → m.history.ended ≡ false → TakesMoreInput config reads buffer_of writes answers m moved (Ok tt) y
      → Sums m moved y
  more_sums m y moved unseen (waits, (xs, first, told, arrive, is), service) =
      let f = first_wrote m.reader m.writer y.writer moved.took first in
      record {
        read = told;
        came = xs;
        received = ap (λ (k : History). k.received) is;
        tells = subst (Tells m.history.ended y.history.ended xs) (sym arrive)
            (subst (λ now. Tells m.history.ended now xs (arrived xs)) (sym (ap (λ (k : History). k.ended) is))
            (tells_arrived m.history xs unseen));
        wrote = f.0;
        calls = no_calls answers m.service y.service _ _ service (ap (λ (k : History). k.calls) is);
        sent = ap (λ (k : History). k.sent) is ∙ rw f.1 (sym (append-nil _));
        fine = f.2;
      }

  step_sums : (x y : HttpSession T O S) (moved : Moved) → HttpStep config reads buffer_of writes answers x moved y → Sums x moved y
  step_sums x y moved (m, a, inl h) = sums_then x m y (all_moved []) moved (answered_sums x m a) (hands_sums m y moved h)
  step_sums x y moved (m, a, inr h) = sums_then x m y (all_moved []) moved (answered_sums x m a)
      (more_sums m y moved (still_open x m a h.0) h)

  pub folds_sums : (x y : HttpSession T O S) (l : List Moved) → FoldsTo (HttpStep config reads buffer_of writes answers) x l y
      → Sums x (all_moved l) y
  folds_sums x y [] h =
      record {
        read = read_nothing x.reader y.reader [] refl (rw h refl);
        came = [];
        received = rw h (sym (append-nil _));
        tells = rw h (tells_none y.history.ended);
        wrote = rw h (write_laws.rests y.writer);
        calls = no_calls answers x.service y.service _ _ (rw h refl) (rw h refl);
        sent = rw h (sym (append-nil _));
        fine = tt;
      }
  folds_sums x y (a ∷ l) h =
      sums_then x h.0 y a (all_moved l) (step_sums x h.0 a h.1) (folds_sums h.0 y l h.2)

  -- The end.

  written_later : (x m k : History) (a b : Moved) (r : Result (Unit {0}) HttpError) → m.sent ≡ x.sent ++ bytes_taken a.took
      → WritesAndFlushes a.took → WrittenAt m b r k → WrittenAt x (both a b) r k
  written_later x m k a b (Ok u) sent fine h = (
    (h.0.0 ∙ sym (sent_both _ _ a.took b.took sent), h.0.1),
    fine_both a.took b.took fine h.1,
    ends_later a.took b.took h.2,
    h.3,
    h.4,
  )
  written_later x m k a b (Err (Input e)) sent fine h = (
    (h.0.0 ∙ sym (sent_both _ _ a.took b.took sent), h.0.1),
    fine_both a.took b.took fine h.1,
    ends_later a.took b.took h.2,
  )
  written_later x m k a b (Err (Output e)) sent fine h = (
    subst (λ t. StandsFirst t (output k)) (sym (sent_both _ _ a.took b.took sent)) h.0,
    fails_later a.took b.took e fine h.1,
  )
  written_later x m k a b (Err Memory) sent fine h = (
    (h.0.0 ∙ sym (sent_both _ _ a.took b.took sent), h.0.1),
    fine_both a.took b.took fine h.1,
    ends_later a.took b.took h.2,
  )

  pub whole_later : (x m y : HttpSession T O S) (a b : Moved) (r : Result (Unit {0}) HttpError) → Sums x a m
      → WholeSession config reads writes answers m b r y → WholeSession config reads writes answers x (both a b) r y
  whole_later x m y a b r h k =
      record {
        read = told_follow read_laws x.reader m.reader y.reader a.told b.told h.read k.read;
        came = h.came ++ k.came;
        received = received_both _ _ _ h.came k.came h.received k.received;
        tells = read_then _ _ _ h.came k.came a.told b.told r h.tells k.tells;
        wrote = write_laws.follows x.writer m.writer y.writer a.took b.took h.wrote k.wrote;
        calls = calls_then answers _ _ _ _ _ _ h.calls k.calls;
        served = k.served;
        written = written_later x.history m.history y.history a b r h.sent h.fine k.written;
      }

  -- The last move, in which the service is not called.
  ended : (m y : HttpSession T O S) (moved : Moved) (r : Result (Unit {0}) HttpError) → ∥ IsServed config m.history ∥₁
      → y.history ≡ m.history → y.service ≡ m.service → ReadAt m.history.ended m.history.ended [] moved.told r
      → ToldStripped reads m.reader moved.told y.reader → writes m.writer moved.took y.writer
      → WrittenAt m.history moved r m.history → WholeSession config reads writes answers m moved r y
  ended m y moved r served same service tells read wrote written =
      record {
        read = read;
        came = [];
        received = rw same (sym (append-nil _));
        tells = rw same tells;
        wrote = wrote;
        calls = no_calls answers m.service y.service _ _ service (ap (λ (k : History). k.calls) same);
        served = rw same served;
        written = rw same written;
      }

  -- Nothing waited, and nothing was taken.
  nothing_sent : (h : History) (took : List WriteMark) → h.pending ≡ [] → bytes_taken took ≡ []
      → IsSent h (bytes_taken took) h
  nothing_sent h took none empty = (rw empty (sym (append-nil _)), none)

  front_none : (h : History) (took : List WriteMark) → bytes_taken took ≡ [] → StandsFirst (h.sent ++ bytes_taken took) (output h)
  front_none h took empty = rw empty (front_sent h.sent h.pending [] _ 0 refl)

  tells_nothing : (was : Bool) (l : List ReadMark) → l ≡ [] → Tells was was [] l
  tells_nothing was l none = rw none (tells_none was)

  abbrev WholeAt : HttpSession T O S → Moved → Result (Unit {0}) HttpError → HttpSession T O S → Type 0
  WholeAt = WholeSession config reads writes answers

  closed_whole : (m y : HttpSession T O S) (moved : Moved) → y.history.state ≢ Aborted → ∥ IsServed config m.history ∥₁
      → ClosesSession config reads buffer_of writes answers m moved (Ok tt) y → WholeAt m moved (Ok tt) y
  closed_whole m y moved alive served (done, f, same, none, reader, service) =
      let pending = no_length m.history.pending done.1 in
      ended m y moved (Ok tt) served same service (tells_nothing m.history.ended moved.told none)
      (read_nothing m.reader y.reader moved.told none reader) f.0 (
        nothing_sent m.history moved.took pending f.2,
        flush_fine moved.took f.1,
        flush_last moved.took f.1,
        done,
        (λ lost. alive (ap (λ (k : History). k.state) same ∙ lost)),
      )

  lost_whole : (m y : HttpSession T O S) (moved : Moved) → ∥ IsServed config m.history ∥₁
      → ClosesSession config reads buffer_of writes answers m moved (Ok tt) y → WholeAt m moved (Err Memory) y
  lost_whole m y moved served (done, f, same, none, reader, service) =
      let pending = no_length m.history.pending done.1 in
      ended m y moved (Err Memory) served same service (inl (tells_nothing m.history.ended moved.told none))
      (read_nothing m.reader y.reader moved.told none reader) f.0
      (nothing_sent m.history moved.took pending f.2, flush_fine moved.took f.1, flush_last moved.took f.1)

  memory_tells : (was : Bool) (l : List ReadMark) → was ≡ false → (l ≡ []) ⊎ (l ≡ ReadMark.end ∷ [])
      → ReadAt was was [] l (Err Memory)
  memory_tells was l unseen (inl none) = inl (tells_nothing was l none)
  memory_tells was l unseen (inr last) = inr (unseen, last)

  close_failed : (m y : HttpSession T O S) (moved : Moved) (e : Error) → ∥ IsServed config m.history ∥₁
      → ClosesSession config reads buffer_of writes answers m moved (Err e) y → WholeAt m moved (Err (Output e)) y
  close_failed m y moved e served (done, f, same, none, reader, service) =
      ended m y moved (Err (Output e)) served same service (tells_nothing m.history.ended moved.told none)
      (read_nothing m.reader y.reader moved.told none reader)
      f.0 (front_none m.history moved.took f.2, only_fails moved.took e f.1)

  hand_failed : (m y : HttpSession T O S) (moved : Moved) (e : Error) → ∥ IsServed config m.history ∥₁
      → HandsOutput config reads buffer_of writes answers m moved (Err e) y → WholeAt m moved (Err (Output e)) y
  hand_failed m y moved e served ((n, front, handed, same), none, reader, service) =
      ended m y moved (Err (Output e)) served same service (tells_nothing m.history.ended moved.told none)
      (read_nothing m.reader y.reader moved.told none reader)
      front.0 (
        front_sent m.history.sent m.history.pending (bytes_taken moved.took) front.1.0 n front.1.1,
        only_fails moved.took e handed,
      )

  more_failed : (m y : HttpSession T O S) (moved : Moved) (e : HttpError) → m.history.ended ≡ false → ∥ IsServed config m.history ∥₁
      → TakesMoreInput config reads buffer_of writes answers m moved (Err e) y → WholeAt m moved (Err e) y
  more_failed m y moved (Input e) unseen served (waits, (f, told, is, same), service) =
      ended m y moved (Err (Input e)) served same service (unseen, is) told f.0
      (nothing_sent m.history moved.took waits.1 f.2, flush_fine moved.took f.1, flush_last moved.took f.1)
  more_failed m y moved (Output e) unseen served (waits, (f, reader, none, same), service) =
      ended m y moved (Err (Output e)) served same service (tells_nothing m.history.ended moved.told none)
      (read_nothing m.reader y.reader moved.told none reader)
      f.0 (front_none m.history moved.took f.2, only_fails moved.took e f.1)
  more_failed m y moved Memory unseen served (waits, (f, told, one, same), service) =
      ended m y moved (Err Memory) served same service (memory_tells m.history.ended moved.told unseen one) told f.0
      (nothing_sent m.history moved.took waits.1 f.2, flush_fine moved.took f.1, flush_last moved.took f.1)

  after_answers : (x m y : HttpSession T O S) (moved : Moved) (r : Result (Unit {0}) HttpError)
      → AnswersGiven config reads buffer_of writes answers x m → WholeAt m moved r y → WholeAt x moved r y
  after_answers x m y moved r a h = whole_later x m y (all_moved []) moved r (answered_sums x m a) h

  ends_whole : (x y : HttpSession T O S) (moved : Moved) (r : Result (Unit {0}) HttpError)
      → EndsSession config reads buffer_of writes answers x moved r y → WholeAt x moved r y
  ends_whole x y moved (Ok u) ((m, a, h), alive) =
      after_answers x m y moved (Ok tt) a (closed_whole m y moved alive a.served h)
  ends_whole x y moved (Err (Output e)) (m, a, inl h) =
      after_answers x m y moved (Err (Output e)) a (hand_failed m y moved e a.served h)
  ends_whole x y moved (Err (Output e)) (m, a, inr (inl h)) =
      after_answers x m y moved (Err (Output e)) a (close_failed m y moved e a.served h)
  ends_whole x y moved (Err (Output e)) (m, a, inr (inr h)) =
      after_answers x m y moved (Err (Output e)) a (more_failed m y moved (Output e) (still_open x m a h.0) a.served h)
  ends_whole x y moved (Err (Input e)) (m, a, h) =
      after_answers x m y moved (Err (Input e)) a (more_failed m y moved (Input e) (still_open x m a h.0) a.served h)
  ends_whole x y moved (Err Memory) (inl ((m, a, h), lost)) =
      after_answers x m y moved (Err Memory) a (lost_whole m y moved a.served h)
  ends_whole x y moved (Err Memory) (inr (m, a, h)) =
      after_answers x m y moved (Err Memory) a (more_failed m y moved Memory (still_open x m a h.0) a.served h)

  -- A whole session.
  pub serves_whole : (x y : HttpSession T O S) (r : Result (Unit {0}) HttpError) → Serves config reads buffer_of writes answers x r y
      → (moved : Moved) × WholeAt x moved r y
  serves_whole x y r (l, m, last, folds, ends) =
      (both (all_moved l) last, whole_later x m y (all_moved l) last r (folds_sums x m l folds) (ends_whole m y last r ends))
