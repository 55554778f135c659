-- Laws about journals.
use Rattle.std.specs.Prelude.{◌≡◌, ◌≤◌, ℕ, length, Result, List, [], ◌∷◌, ◌++◌, Option, Some, None, map}
use Rattle.std.proofs.Common.{inl}
use Rattle.lite_halves.specs.Uses.{◌∙◌, refl, sym, ap, append_assoc, append-nil, arith, inr, length-append, map-append}
use Rattle.lite_halves.specs.Uses.{flat_map-append, Error, IoSliceMut, Poll, ErrorKind, OutOfMemory, Part, PartRuns}
use Rattle.lite_halves.specs.Uses.{PartsInOrder, ReadMark, read_marks, MarkLaws, StandsFirst, room_in, Steps, WriteMark}
use Rattle.lite_halves.specs.Uses.{done_marks, write_marks, Runs, subst}
use Rattle.lite_io_base.specs.Laws.Runs.{steps_follow}
use Rattle.lite_halves.specs.Entry.{Note, close_note, flush_note, part_of, parts_in, read_note, write_note}
use Rattle.lite_halves.specs.Journal.{Adds, AddsAll, AddsOrStays, AddsRead, AddsWrite, Chronicle, ClonesEqual, IsSound}
use Rattle.lite_halves.specs.Journal.{JournalReads, JournalWrites, Journals, Replays, Stage, Story, Thins, parts_among}
use Rattle.lite_halves.specs.Journal.{all_in_order, ReadsAmply}
use Rattle.lite_halves.specs.Laws.Entry.{done_note_part, fit_both, parts_in-both, read_note_part, write_note_part}
use Rattle.lite_io_base.specs.Laws.Steady.{no_wait_both, no_wait_parts, never_waits_both, never_waits_parts}
use Rattle.lite_io_base.specs.Steady.{CalmReadLaws, NoPendingRead, SteadyReadLaws, CalmWriteLaws, NoError, NoPendingWrite, SteadyWriteLaws}
use Rattle.std.specs.declared.io.ErrorKind.TheVariants.{Interrupted}

-- Allocation failures may be left out of two lists of marks that follow each other.
pub thins_both : {A : Type 0} (refusal : A) (xs ks ys ls : List A) → Thins refusal xs ks → Thins refusal ys ls
    → Thins refusal (xs ++ ys) (ks ++ ls)
thins_both {A} refusal [] ks ys ls a b = let P : List A → Type 0 = λ w. Thins refusal ys (w ++ ls) in rw a b
thins_both refusal (x ∷ xs) ks ys ls a b = elim a [
  | inl w ↦ inl (w.0 ++ ls, ap (λ v. v ++ ls) w.1, thins_both refusal xs w.0 ys ls w.2 b)
  | inr w ↦ inr (w.0, thins_both refusal xs ks ys ls w.1 b)
]

-- A list stays as it is if no allocation failure is left out.
pub thins_none : {A : Type 0} (refusal : A) (ms : List A) → Thins refusal ms ms
thins_none refusal [] = refl
thins_none refusal (m ∷ ms) = inl (ms, refl, thins_none refusal ms)

parts_among-both : (ps qs : List (Option Part)) → parts_among (ps ++ qs) ≡ parts_among ps ++ parts_among qs
parts_among-both [] qs = refl
parts_among-both (Some p ∷ ps) qs = rw (parts_among-both ps qs)
parts_among-both (None ∷ ps) qs = parts_among-both ps qs

parts_among-all : (ps : List Part) → parts_among (map Some ps) ≡ ps
parts_among-all [] = refl
parts_among-all (p ∷ ps) = rw (parts_among-all ps)

module _ {T : Type 0} (reads : Runs ReadMark T) (writes : Runs WriteMark T) where
  pub adds_none : (c : Chronicle T) → AddsAll reads writes c [] c
  adds_none c = record { fits = tt; start = refl; notes = sym (append-nil c.notes); ran = refl; room = omega arith }

  pub adds_both : {a b c : Chronicle T} {es fs : List Note} → AddsAll reads writes a es b → AddsAll reads writes b fs c
      → AddsAll reads writes a (es ++ fs) c
  adds_both {es = es} {fs = fs} p q =
      record {
        fits = fit_both _ _ p.fits q.fits;
        start = q.start ∙ p.start;
        notes = rw (q.notes, p.notes, append_assoc);
        ran = rw parts_in-both (steps_follow (PartRuns reads writes) _ _ _ _ _ p.ran q.ran);
        room = omega (arith, p.room, q.room, length-append es fs);
      }

  -- One entry is added like several are.
  pub adds_one : {a b : Chronicle T} {e : Note} → Adds reads writes a e b → AddsAll reads writes a (e ∷ []) b
  adds_one {b = b} h =
      record { fits = (h.fits, tt); start = h.start; notes = h.notes; ran = (b.stream, h.ran, refl); room = h.room }

  -- What callers see of one kind of calls.
  module _ {A : Type 0} (part : List A → Part) (refusal : A) where
    journals_follow : (a b c : Chronicle T) (l m : List A) → Journals reads writes part refusal a l b
        → Journals reads writes part refusal b m c → Journals reads writes part refusal a (l ++ m) c
    journals_follow a b c l m p q =
        record {
          entries = p.entries ++ q.entries;
          marks = p.marks ++ q.marks;
          kind = rw (parts_in-both, p.kind, q.kind) (sym (map-append part p.marks q.marks));
          added = adds_both p.added q.added;
          thinned = rw flat_map-append (thins_both _ l _ m _ p.thinned q.thinned);
        }

    pub journals_laws : MarkLaws (Journals reads writes part refusal)
    journals_laws = record {
      rests = λ c. record { entries = []; marks = []; kind = refl; added = adds_none c; thinned = refl };
      follows = journals_follow;
    }

    -- What callers see of a call that added its entry.
    journals_add : {a b : Chronicle T} {e : Note} {ms : List A} → part_of e.asked e.told ≡ part ms
        → Adds reads writes a e b → Journals reads writes part refusal a ms b
    journals_add {e = e} {ms = ms} is h =
        record {
          entries = e ∷ [];
          marks = ms ∷ [];
          kind = ap (λ p. p ∷ []) is;
          added = adds_one h;
          thinned = rw append-nil (thins_none refusal ms);
        }

    -- What callers see of a call whose allocation failed.
    journals_refuse : {a b : Chronicle T} {m : A} → m ≡ refusal → b ≡ a
        → Journals reads writes part refusal a (m ∷ []) b
    journals_refuse {a} refused same =
        rw same record { entries = []; marks = []; kind = refl; added = adds_none a; thinned = inr (refused, refl) }

  module _ (a b : Chronicle T) where
    pub read_adds : (r : Poll (Result ℕ Error)) (buf : List ℕ) → Adds reads writes a (read_note r buf) b
        → JournalReads reads writes a (read_marks r buf) b
    read_adds r buf = journals_add _ _ (read_note_part r buf)

    pub reads_refuse : (kind : ErrorKind) → kind ≡ OutOfMemory → b ≡ a
        → JournalReads reads writes a (ReadMark.fault kind ∷ []) b
    reads_refuse kind refused = journals_refuse _ _ (ap ReadMark.fault refused)

    pub write_adds : (r : Poll (Result ℕ Error)) (xs : List ℕ) → Adds reads writes a (write_note r xs) b
        → JournalWrites reads writes a (write_marks r xs) b
    write_adds r xs = journals_add _ _ (write_note_part r xs)

    pub flush_adds : (r : Poll (Result (Unit {0}) Error)) → Adds reads writes a (flush_note r) b
        → JournalWrites reads writes a (done_marks WriteMark.flushed r) b
    flush_adds r = journals_add _ _ (done_note_part WriteMark.flushed r)

    pub close_adds : (r : Poll (Result (Unit {0}) Error)) → Adds reads writes a (close_note r) b
        → JournalWrites reads writes a (done_marks WriteMark.closed r) b
    close_adds r = journals_add _ _ (done_note_part WriteMark.closed r)

    pub writes_refuse : (kind : ErrorKind) → kind ≡ OutOfMemory → b ≡ a
        → JournalWrites reads writes a (WriteMark.fault kind ∷ []) b
    writes_refuse kind refused = journals_refuse _ _ (ap WriteMark.fault refused)

    pub vectored_reads : (r : Poll (Result ℕ Error)) (buf : List ℕ) (bufs : List IoSliceMut)
        → length buf ≤ room_in bufs → AddsOrStays reads writes a (read_note r buf) b
        → AddsRead reads writes a r bufs b
    vectored_reads r buf bufs fits h = (buf, fits, h)

    pub vectored_writes : (r : Poll (Result ℕ Error)) (front offered : List ℕ) → StandsFirst front offered
        → (front ≡ [] → offered ≡ []) → AddsOrStays reads writes a (write_note r front) b
        → AddsWrite reads writes a r offered b
    vectored_writes r front offered first some h = (front, first, some, h)

  pub ruleset reads_rules = (read_adds, reads_refuse, vectored_reads)

  pub ruleset writes_rules = (write_adds, flush_adds, close_adds, writes_refuse, vectored_writes)

  module _ (copies : T → T → Type 0) where
    story_follows : {x y z : T} {l m : List Part} → Story reads writes copies x l y → Story reads writes copies y m z
        → Story reads writes copies x (l ++ m) z
    story_follows h k = (
      h.0 ++ k.0,
      rw (h.1, k.1) (sym (parts_among-both h.0 k.0)),
      steps_follow (Stage reads writes copies) _ _ _ h.0 k.0 h.2 k.2,
    )

    stages_of : (x y : T) (ps : List Part) → PartsInOrder reads writes x ps y
        → Steps (Stage reads writes copies) x (map Some ps) y
    stages_of x y [] h = h
    stages_of x y (p ∷ ps) h = (h.0, h.1, stages_of h.0 y ps h.2)

    module _ {x y : T} where
      story_of_parts : (ps : List Part) → PartsInOrder reads writes x ps y → Story reads writes copies x ps y
      story_of_parts ps h = (map Some ps, sym (parts_among-all ps), stages_of x y ps h)

      story_to_clone : copies x y → Story reads writes copies x [] y
      story_to_clone h = (None ∷ [], refl, (y, inl h, refl))

      story_from_clone : copies y x → Story reads writes copies x [] y
      story_from_clone h = (None ∷ [], refl, (y, inr h, refl))

    stages_run : ClonesEqual copies → (x y : T) (stages : List (Option Part))
        → Steps (Stage reads writes copies) x stages y → PartsInOrder reads writes x (parts_among stages) y
    stages_run equal x y [] h = h
    stages_run equal x y (Some p ∷ ps) h = (h.0, h.1, stages_run equal h.0 y ps h.2)
    stages_run equal x y (None ∷ ps) h =
        let same : h.0 ≡ x = elim (h.1) [ inl to ↦ equal x h.0 to | inr from ↦ sym (equal h.0 x from) ] in
        rw (← same) (stages_run equal h.0 y ps h.2)

    -- A sound journal is a run from its start, if every clone equals its original.
    pub sound_replays : (j : Chronicle T) → IsSound reads writes copies j → Replays reads writes copies j
    sound_replays j sound equal = rw sound.story.1 (stages_run equal _ _ sound.story.0 sound.story.2)

    -- A journal without entries is sound.
    pub sound_new : (start stream : T) (room : ℕ) → copies stream start → IsSound reads writes copies (record {
      start = start;
      notes = [];
      stream = stream;
      room = room;
    })
    sound_new start stream room h = record { fits = tt; story = story_from_clone h }

    -- A journal is sound after further calls.
    module _ (a b : Chronicle T) where
      pub sound_more : (es : List Note) → IsSound reads writes copies a → AddsAll reads writes a es b
          → IsSound reads writes copies b
      sound_more es sound adds =
          record {
            fits = rw adds.notes (fit_both a.notes es sound.fits adds.fits);
            story =
                rw (adds.notes, parts_in-both, adds.start)
                (story_follows sound.story (story_of_parts (parts_in es) adds.ran));
          }

      -- A journal is sound if all of it is cloned.
      pub sound_clone : IsSound reads writes copies a → copies a.start b.start → copies a.stream b.stream
          → b.notes ≡ a.notes → IsSound reads writes copies b
      sound_clone sound from to same =
          let whole = story_follows (story_follows (story_from_clone from) sound.story) (story_to_clone to) in
          record { fits = rw same sound.fits; story = rw same (rw append-nil at whole) }

-- Laws about the steadiness and calmness of journals: these follow their stream, both in reading and in writing.

-- An allocation failure is no `Pending`.
thins_no_wait : (kind : ErrorKind) (ms ks : List ReadMark) → Thins (ReadMark.fault kind) ms ks → NoPendingRead ks
    → NoPendingRead ms
thins_no_wait kind [] ks h n = tt
thins_no_wait kind (m ∷ ms) ks h n = elim h [
  | inl w ↦
      let parts = no_wait_parts (m ∷ []) w.0 (subst NoPendingRead w.1 n) in
      no_wait_both (m ∷ []) ms parts.0 (thins_no_wait kind ms w.0 w.2 parts.1)
  | inr w ↦ rw w.0 (thins_no_wait kind ms ks w.1 n)
]

module _ {T : Type 0} (reads : Runs ReadMark T) (writes : Runs WriteMark T) (laws : MarkLaws reads) where
  parts_read : (marks : List (List ReadMark)) (x y : T) → PartsInOrder reads writes x (map Part.reading marks) y
      → reads x (all_in_order marks) y
  parts_read [] x y h = rw h (laws.rests x)
  parts_read (l ∷ ls) x y h = laws.follows x h.0 y l (all_in_order ls) h.1 (parts_read ls h.0 y h.2)

  -- What the stream was read by.
  stream_read : (a b : Chronicle T) (ms : List ReadMark) (h : JournalReads reads writes a ms b)
      → reads a.stream (all_in_order h.marks) b.stream
  stream_read a b ms h =
      parts_read h.marks a.stream b.stream
      (rw (← h.kind) h.added.ran)

module _ {T : Type 0} {reads : Runs ReadMark T} {writes : Runs WriteMark T} where
  pub journal_calm : {is_calm : T → Type 0} → MarkLaws reads → CalmReadLaws reads is_calm
      → CalmReadLaws (JournalReads reads writes) (λ (j : Chronicle T). is_calm j.stream)
  journal_calm laws c =
      let ran = stream_read reads writes laws in
      record {
        no_pending = λ a b ms k h. thins_no_wait OutOfMemory ms (all_in_order h.marks) h.thinned
            (c.no_pending a.stream b.stream (all_in_order h.marks) k (ran a b ms h));
        calm_on = λ a b ms k h. c.calm_on a.stream b.stream (all_in_order h.marks) k (ran a b ms h);
      }

  pub journal_steady : {ample : Runs ReadMark T} {needs_none : Type 0} {alike : T → T → Type 0}
      → SteadyReadLaws reads ample needs_none alike
      → SteadyReadLaws (JournalReads reads writes) (ReadsAmply reads writes ample) ⊥
      (λ (a b : Chronicle T). alike a.stream b.stream)
  journal_steady s =
      let journals = journals_laws reads writes Part.reading (ReadMark.fault OutOfMemory) in
      record {
        laws = record {
          rests = λ a. (journals.rests a, s.laws.rests a.stream);
          follows = λ a b c l m h k.
              (journals.follows a b c l m h.0 k.0, s.laws.follows a.stream b.stream c.stream l m h.1 k.1);
        };
        steady = λ a b a' b' l m e h k. s.steady a.stream b.stream a'.stream b'.stream l m e h.1 k.1;
        found = λ n. absurd n;
      }

-- The same, of writing.
refused_no_wait : (kind : ErrorKind) (ms ks : List WriteMark) → Thins (WriteMark.fault kind) ms ks → NoPendingWrite ks
    → NoPendingWrite ms
refused_no_wait kind [] ks h n = tt
refused_no_wait kind (m ∷ ms) ks h n = elim h [
  | inl w ↦
      let parts = never_waits_parts (m ∷ []) w.0 (subst NoPendingWrite w.1 n) in
      never_waits_both (m ∷ []) ms parts.0 (refused_no_wait kind ms w.0 w.2 parts.1)
  | inr w ↦ rw w.0 (refused_no_wait kind ms ks w.1 n)
]

no_error_rest : (m : WriteMark) (ms : List WriteMark) → NoError (m ∷ ms) → NoError ms
no_error_rest (WriteMark.fault kind) ms n = n.1
no_error_rest _ ms n = n

out_of_memory : OutOfMemory ≡ Interrupted → ⊥
out_of_memory is = cc

-- If every error is an interruption, no allocation failed.
none_refused : (ms ks : List WriteMark) → Thins (WriteMark.fault OutOfMemory) ms ks → NoError ms → ks ≡ ms
none_refused [] ks h n = h
none_refused (m ∷ ms) ks h n = elim h [
  | inl w ↦ w.1 ∙ ap (λ l. m ∷ l) (none_refused ms w.0 w.2 (no_error_rest m ms n))
  | inr w ↦ absurd (out_of_memory (subst (λ v. NoError (v ∷ ms)) w.0 n).0)
]

module _ {T : Type 0} (reads : Runs ReadMark T) (writes : Runs WriteMark T) (laws : MarkLaws writes) where
  parts_wrote : (marks : List (List WriteMark)) (x y : T) → PartsInOrder reads writes x (map Part.writing marks) y
      → writes x (all_in_order marks) y
  parts_wrote [] x y h = rw h (laws.rests x)
  parts_wrote (l ∷ ls) x y h = laws.follows x h.0 y l (all_in_order ls) h.1 (parts_wrote ls h.0 y h.2)

  -- What the stream was written by.
  stream_wrote : (a b : Chronicle T) (ms : List WriteMark) (h : JournalWrites reads writes a ms b)
      → writes a.stream (all_in_order h.marks) b.stream
  stream_wrote a b ms h =
      parts_wrote h.marks a.stream b.stream
      (rw (← h.kind) h.added.ran)

  -- If every error is an interruption, the stream was written by the same marks.
  stream_wrote_all : (a b : Chronicle T) (ms : List WriteMark) → JournalWrites reads writes a ms b → NoError ms
      → writes a.stream ms b.stream
  stream_wrote_all a b ms h none = rw (none_refused ms (all_in_order h.marks) h.thinned none) at (stream_wrote a b ms h)

module _ {T : Type 0} {reads : Runs ReadMark T} {writes : Runs WriteMark T} where
  pub journal_calm_write : {is_calm : T → Type 0} → MarkLaws writes → CalmWriteLaws writes is_calm
      → CalmWriteLaws (JournalWrites reads writes) (λ (j : Chronicle T). is_calm j.stream)
  journal_calm_write laws c =
      let ran = stream_wrote reads writes laws in
      record {
        no_pending = λ a b ms k h. refused_no_wait OutOfMemory ms (all_in_order h.marks) h.thinned
            (c.no_pending a.stream b.stream (all_in_order h.marks) k (ran a b ms h));
        calm_on = λ a b ms k h. c.calm_on a.stream b.stream (all_in_order h.marks) k (ran a b ms h);
      }

  pub journal_steady_write : {alike : T → T → Type 0} {below : T → List ℕ} → MarkLaws writes
      → SteadyWriteLaws writes alike below
      → SteadyWriteLaws (JournalWrites reads writes) (λ (a b : Chronicle T). alike a.stream b.stream)
      (λ (a : Chronicle T). below a.stream)
  journal_steady_write laws s =
      let ran = stream_wrote_all reads writes laws in
      record {
        steady = λ a b a' b' l m e h k none no. s.steady a.stream b.stream a'.stream b'.stream l m e
            (ran a a' l h none) (ran b b' m k no) none no;
      }
