-- What a reader tells while a call of it is waited for, pendings aside.
use Rattle.std.specs.Prelude.{IfErr, IfOk, vec_capacity, ◌≡◌, ◌≤◌, ℕ, List, [], ◌∷◌, ◌++◌, length, Result, Ok, Err}
use Rattle.lite_theorems.specs.Uses.{◌∙◌, take, drop, inl, inr, ap, append-nil, append_assoc, arith, refl, subst, sym}
use Rattle.lite_theorems.specs.Uses.{take-append-drop, map-append, FoldsTo, Error, MutBor, Poll, Ready, Pending, Gives}
use Rattle.lite_theorems.specs.Uses.{segment_front, Runs, ReadMark, bytes, read_marks, MarkLaws, NoPendingRead, strip_marks}
use Rattle.lite_theorems.specs.Uses.{Cut, FillsUp, PieceTold, ToldStripped, VectorLacksRoom, WaitedFor}
use Rattle.lite_base.specs.Laws.Segments.{segment_before, to_value_last}
use Rattle.lite_io_base.specs.Laws.Steady.{no_wait_moved, stripped_no_pending}
use Rattle.lite_io_base.specs.Runs.{StandsFirst}
use Rattle.lite_read.specs.ReadExact.{Filling, filling_of, Fulfils, ReadsExactly, fills}
use Rattle.lite_read.specs.Laws.Deterministic.{past_pending, past_value}
use Rattle.lite_read.specs.Laws.ReadExact.{filled_by}
use Rattle.lite_io_base.specs.Laws.Told.{told_follow, told_none}
use Rattle.lite_read.specs.Pieces.{CutsPiece}
use Rattle.lite_base.specs.FutureLaws.{PolledByCalls}
use Rattle.lite_read.specs.Read.{Reads}
use Rattle.lite_read.specs.ReadFold.{AnswerMarks, Gathers, ReadFold, ReadFolds}
use Rattle.lite_read.specs.ReadUntil.{CountsPiece, ReadsUntilByRoom, UntilLacksRoom, until, read_of}
use Rattle.lite_read.specs.declared.read.ReadFuture.{ReadFuture}
use Rattle.lite_read.specs.declared.read_exact.ReadExactFuture.{ReadExactFuture}
use Rattle.lite_read.specs.declared.read_until.ReadUntilFuture.{ReadUntilFuture}
use Rattle.std.proofs.Math.Seq.{drop-length, take-length}
use Rattle.std.proofs.lemmas.List.{length-take, take_all}
use Rattle.lite_read.specs.Told.{EndsShort, Without}

-- what is gathered up to a value, pendings aside
pub read_folds_once : {M R : Type 0} (fold : ReadFold M R)
    → ((p q : M) (l : List ReadMark) (v : R) → fold.gives p l v q → NoPendingRead l)
    → (p q : M) (i : List ReadMark) (l : List (Poll R)) (v : R) → ReadFolds fold p i l q → Gives l v
    → AnswerMarks fold p (strip_marks i) (Ready v) q
read_folds_once fold now p q i [] v h g = absurd g
read_folds_once fold now p q i (Pending ∷ l) v h g =
    let w = h.0.4 in
    let cut = segment_front p h.0.2 i h.0.0 h.0.1 Pending w h.0.3
    ∙ ap (λ k. bytes w.taken ++ (k ++ h.0.1)) w.given.0 in
    subst (λ k. AnswerMarks fold p k (Ready v) q) (sym (past_pending i h.0.1 w.taken cut))
    (segment_before p h.0.2 q w.taken (strip_marks h.0.1) (Ready v)
    (subst (FoldsTo fold.takes p w.taken) (sym w.given.2) w.folds)
    (read_folds_once fold now h.0.2 q h.0.1 l v (h.0.5, h.1) g))
read_folds_once fold now p q i (Ready r ∷ l) v h g =
    let c = to_value_last (AnswerMarks fold) p q i r l h in
    let whole = past_value i c.last [] c.taken (now c.between q c.last r c.given)
    (c.cut ∙ ap (λ k. bytes c.taken ++ k) (sym (append-nil c.last))) in
    record {
      taken = c.taken;
      last = c.last;
      cut = whole ∙ ap (λ k. bytes c.taken ++ k) (append-nil c.last);
      between = c.between;
      folds = c.folds;
      given = subst (λ u. fold.gives c.between c.last u q) g.0 c.given;
    }

-- what was told gave the value
gathers_told : {X S M R : Type 0} {reader : X → S} {held : X → M} {fold : X → ReadFold M R} {Keeps : X → X → Type 0}
    {reads : Runs ReadMark S} {x y : X} {l : List (Poll R)} {v : R} → Gathers reader held fold Keeps reads x l y
    → ((p q : M) (l : List ReadMark) (v : R) → (fold x).gives p l v q → NoPendingRead l) → Gives l v
    → (m : List ReadMark) × ToldStripped reads (reader x) m (reader y)
    × AnswerMarks (fold x) (held x) m (Ready v) (held y)
gathers_told {held = held} {fold = fold} {x = x} {y = y} {l = l} {v = v} h now g =
    let f = h.folded in (
      strip_marks f.marks,
      (f.marks, f.came, refl),
      read_folds_once (fold x) now (held x) (held y) f.marks l v (f.cut, h.ends) g,
    )

-- `read_exact`
abbrev Filled : Type 0
Filled = Result (Unit {0}) Error

no_wait_full : (g : Filling) (l : List ReadMark) (v : Filled) → Fulfils g l v → NoPendingRead l
no_wait_full g [] v h = tt
no_wait_full g (ReadMark.end ∷ []) v h = tt
no_wait_full g (ReadMark.fault kind ∷ []) v h = tt
no_wait_full g _ v h = absurd h

fills_up : (xs new : List ℕ) (last : List ReadMark) (v : Filled) → StandsFirst xs new
    → (length xs ≡ length new → xs ≡ new) → Fulfils (xs, length new) last v → FillsUp new (bytes xs ++ last) v
fills_up xs new [] (Ok u) held all h = append-nil (bytes xs) ∙ ap bytes (all h.0)
fills_up xs new [] (Err e) held all h = absurd (cc h.1)
fills_up xs new (ReadMark.end ∷ []) (Err e) held all h =
    record { front = xs; last = ReadMark.end ∷ []; fewer = h.0; held = held; stops = inl (refl, h.1); cut = refl }
fills_up xs new (ReadMark.fault kind ∷ []) (Err e) held all h =
    let stops : EndsShort (ReadMark.fault kind ∷ []) e = inr (ap (λ k. ReadMark.fault k ∷ []) (sym h.1)) in
    record { front = xs; last = ReadMark.fault kind ∷ []; fewer = h.0; held = held; stops = stops; cut = refl }
fills_up xs new _ v held all h = absurd h

exact_value : (k n : ℕ) (new : List ℕ) (l : List ReadMark) (v : Filled)
    → AnswerMarks fills ([], n) l (Ready v) (take k new, length new) → (length new ≡ n) × FillsUp new l v
exact_value k n new l v w =
    let taken = filled_by w.taken ([], n) w.between w.folds in
    let front : take k new ≡ w.taken = ap (λ (z : Filling). z.0) w.given.1 ∙ taken.0 in
    let room : length new ≡ n = ap (λ (z : Filling). z.1) w.given.1 ∙ taken.1 in
    let between : w.between ≡ (w.taken, length new) = cc in
    let all : length w.taken ≡ length new → w.taken ≡ new = λ e. sym front ∙ take_all k new
    (omega (arith, length-take k new, ap length front, e)) in
    let held : StandsFirst w.taken new = (drop k new, sym (take-append-drop k new) ∙ ap (λ z. z ++ drop k new) front) in
    (room, rw w.cut (fills_up w.taken new w.last v held all (rw between at w.given.0)))

-- `read`
no_wait_read : (v : Result ℕ Error) (buf : List ℕ) → NoPendingRead (read_marks (Ready v) buf)
no_wait_read (Ok n) buf = no_wait_moved buf (take n buf)
no_wait_read (Err e) buf = tt

-- what a read was told while it was waited for, in which it gave r and left ts in the buffer
abbrev pub ToldByRead : {S E : Type 0} → Runs ReadMark S → S → List ℕ → Result (Result ℕ Error) E → S → List ℕ → Type 0
ToldByRead reads s before r t ts = ((l : List ReadMark) × ToldStripped reads s l t
    × IfOk r (λ v. l ≡ read_marks (Ready v) ts) × IfErr r (λ _. l ≡ []))
    × (length ts ≡ length before) × IfOk r (λ v. IfOk v (λ n. n ≤ length ts))

-- both references of a future are those of another
abbrev pub SameTwo : {A B : Type 0} → MutBor A → MutBor B → MutBor A → MutBor B → Type 0
SameTwo a b c d = (a.ghost_name ≡ c.ghost_name) × (b.ghost_name ≡ d.ghost_name)

polled_told : {S : Type 0} (E : Type 0) {reads : Runs ReadMark S} → MarkLaws reads → (x y : ReadFuture S)
    (l : List (Poll (Result ℕ Error))) (v : Result ℕ Error) → Gives l v → PolledByCalls (Reads reads) x l y
    → ToldByRead {E = E} reads x.reader.now x.buf.now (Ok v) y.reader.now y.buf.now
    × SameTwo y.reader y.buf x.reader x.buf
polled_told E laws x y [] v g h = absurd g
polled_told E laws x y (Pending ∷ l) v g h =
    let first = h.1 in
    let more = polled_told E laws h.0 y l v g h.2 in
    let told = more.0.0 in
    let names = more.1 in
    let all = told_follow laws x.reader.now h.0.reader.now y.reader.now [] told.0
    (ReadMark.pending ∷ [], first.came, refl) told.1 in (
      ((told.0, all, told.2, tt), more.0.1 ∙ first.room, more.0.2),
      (names.0 ∙ ap (λ z. z.reader.ghost_name) first.stays, names.1 ∙ ap (λ z. z.buf.ghost_name) first.stays),
    )
polled_told E laws x y (Ready r ∷ l) v g h =
    let last = rw g.0 at h.0 in
    let marks = read_marks (Ready v) y.buf.now in
    let same = stripped_no_pending marks (no_wait_read v y.buf.now) in (
      ((marks, (marks, last.came, same), refl, tt), last.room, last.bound),
      (ap (λ z. z.reader.ghost_name) last.stays, ap (λ z. z.buf.ghost_name) last.stays),
    )

-- `read_until`, in which an allocation may fail if `m` is true
module _ (at : ℕ) (m : Type 0) where
  no_wait_cut : (p : List ℕ) (l : List ReadMark) (cut : Cut) → CutsPiece at m p l cut → NoPendingRead l
  no_wait_cut p l (Cut.failed e) (inl h) = rw h tt
  no_wait_cut p l (Cut.failed e) (inr h) = rw h.0 tt
  no_wait_cut p l _ h = rw h.0 tt

  held_without : (xs p q : List ℕ) → FoldsTo (until at m).takes p xs q → (q ≡ p ++ xs) × Without at xs
  held_without [] p q h = (sym h ∙ sym (append-nil p), tt)
  held_without (x ∷ xs) p q (r, t, more) =
      let rest = held_without xs r q more in
      (rest.0 ∙ ap (λ z. z ++ xs) t.1 ∙ append_assoc p (x ∷ []) xs, (t.0, rest.1))

  piece_cut : (xs after : List ℕ) (last : List ReadMark) (v : Result ℕ Error) (cut : Cut) → Without at xs
      → CutsPiece at m xs last cut → CountsPiece at cut xs v after → PieceTold m at after (bytes xs ++ last) v
  piece_cut xs after last v (Cut.piece ys) w c k =
      let whole : after ≡ xs ++ at ∷ [] = rw c.1 at k.0 in
      let told : bytes xs ++ last ≡ bytes after = rw (c.0, whole) (sym (map-append ReadMark.byte xs (at ∷ []))) in
      rw k.1 (refl, inl (record { before = xs; without = w; whole = whole }, told))
  piece_cut xs after last v (Cut.last ys) w c k =
      let whole : after ≡ xs = k.0 ∙ c.2 in
      rw k.1 (refl, inr (rw whole w, rw (c.0, whole) refl))
  piece_cut xs after last v Cut.nothing w c k =
      let whole : after ≡ xs = k.0 ∙ sym c.1 in
      rw k.1 (refl, inr (rw whole w, rw (c.0, whole) refl))
  piece_cut xs after last v (Cut.failed e) w (inl c) k =
      rw (k.1, k.0) (w, inl (rw c refl))
  piece_cut xs after last v (Cut.failed e) w (inr c) k =
      rw (k.1, k.0) (w, inr (c.1, rw c.0 (append-nil (bytes xs)), c.2))

  piece_value : (l : List ReadMark) (v : Result ℕ Error) (q : List ℕ) → AnswerMarks (until at m) [] l (Ready v) q
      → PieceTold m at q l v
  piece_value l v q w =
      let held = held_without w.taken [] w.between w.folds in
      let g = w.given in
      rw (w.cut, ← held.0) (piece_cut w.between q w.last v g.0 (rw held.0 held.1) g.1 g.2)

-- what a `read_exact` was told while it was waited for, in which it gave r and left ts in the buffer
abbrev pub ToldByExact : {S E : Type 0} → Runs ReadMark S → S → List ℕ → Result Filled E → S → List ℕ → Type 0
ToldByExact reads s before r t ts = ((l : List ReadMark) × ToldStripped reads s l t
    × IfOk r (λ v. FillsUp ts l v) × IfErr r (λ _. l ≡ [])) × (length ts ≡ length before)

-- a `read_until` likewise, which left these bytes in its vector; `lacks` says when an allocation may fail
abbrev pub ToldByUntil : {S E : Type 0} → Runs ReadMark S → ℕ → (List ℕ → S → Type 0) → S → List ℕ
    → Result (Result ℕ Error) E → S → List ℕ → Type 0
ToldByUntil reads at lacks s before r t ts =
    (l : List ReadMark) × (xs : List ℕ) × ToldStripped reads s l t × (ts ≡ before ++ xs)
    × IfOk r (λ v. PieceTold (lacks ts t) at xs l v) × IfErr r (λ _. (l ≡ []) × (xs ≡ []))

-- the vector had so much room, and what the reader has at hand is too much for it
abbrev pub LacksBy : {S : Type 0} → ℕ → ℕ → (S → List ℕ) → List ℕ → S → Type 0
LacksBy at capacity buffer_of ts t = VectorLacksRoom at capacity ts (buffer_of t)

module _ {S E : Type 0} {reads : Runs ReadMark S} (laws : MarkLaws reads) where
  -- `read`: what was told, and the references
  pub read_waited : (x y : ReadFuture S) (r : Result (Result ℕ Error) E) → WaitedFor (PolledByCalls (Reads reads)) x r y
      → ToldByRead reads x.reader.now x.buf.now r y.reader.now y.buf.now × SameTwo y.reader y.buf x.reader x.buf
  read_waited x y (Ok v) w = polled_told E laws x y w.0.0 v w.0.1 w.0.2
  read_waited x y (Err e) w = rw w.1 ((([], told_none laws x.reader.now, tt, refl), refl, tt), (refl, refl))

  -- `read_exact` likewise
  pub exact_waited : (x y : ReadExactFuture S) (r : Result Filled E) → x.filled ≡ 0
      → WaitedFor (ReadsExactly reads) x r y
      → ToldByExact reads x.reader.now x.buf.now r y.reader.now y.buf.now × SameTwo y.reader y.buf x.reader x.buf
  exact_waited x y (Ok v) begun w =
      let h = w.0.2 in
      let told = gathers_told h (λ p q l v h. no_wait_full p l v h.0) w.0.1 in
      let from = subst (λ n. AnswerMarks fills (take n x.buf.now, length x.buf.now) told.0 (Ready v) (filling_of y))
      begun
      told.2 in
      let value = exact_value y.filled (length x.buf.now) y.buf.now told.0 v from in (
        ((told.0, told.1, value.1, tt), value.0),
        (ap (λ z. z.ghost_name) h.stays.reader, ap (λ z. z.ghost_name) h.stays.buf),
      )
  exact_waited x y (Err e) begun w = rw w.1 ((([], told_none laws x.reader.now, tt, refl), refl), (refl, refl))

  -- `read_until` likewise
  pub until_waited : (buffer_of : S → List ℕ) (x y : ReadUntilFuture S) (r : Result (Result ℕ Error) E)
      → x.start ≡ length x.buf.now.items → WaitedFor (ReadsUntilByRoom reads buffer_of) x r y
      → ToldByUntil reads x.byte (LacksBy x.byte (vec_capacity x.buf.now) buffer_of) x.reader.now x.buf.now.items r
      y.reader.now y.buf.now.items
      × SameTwo y.reader y.buf x.reader x.buf
  until_waited buffer_of x y (Ok v) begun w =
      let h = w.0.2.gathered in
      let m = UntilLacksRoom buffer_of x y in
      let old = x.buf.now.items in
      let new = y.buf.now.items in
      let told = gathers_told h (λ p q l v h. no_wait_cut x.byte m p l h.0 h.1) w.0.1 in
      let none : read_of x ≡ [] = rw begun (drop-length old) in
      let some : read_of y ≡ drop (length old) new = rw (h.stays.start, begun) refl in
      let xs = drop (length old) new in
      let piece = piece_value x.byte m told.0 v xs (subst (AnswerMarks (until x.byte m) [] told.0 (Ready v)) some
      (subst (λ p. AnswerMarks (until x.byte m) p told.0 (Ready v) (read_of y)) none told.2)) in
      let kept : take (length old) new ≡ old = rw begun at h.stays.before ∙ take-length old in
      let whole : new ≡ old ++ xs = sym (take-append-drop (length old) new) ∙ ap (λ z. z ++ xs) kept in (
        (told.0, xs, told.1, whole, piece, tt),
        (ap (λ z. z.ghost_name) h.stays.reader, ap (λ z. z.ghost_name) h.stays.buf),
      )
  until_waited buffer_of x y (Err e) begun w =
      rw w.1 (([], [], told_none laws x.reader.now, sym (append-nil x.buf.now.items), tt, (refl, refl)), (refl, refl))

-- what is told of two values is told of values that equal them
pub told_at : {S : Type 0} (Told : S → List ℕ → Type 0) {t t' : S} {ts ts' : List ℕ} → t' ≡ t → ts' ≡ ts → Told t ts
    → Told t' ts'
told_at Told e d h = rw (e, d) h
