-- A writer that is handed some bytes, and then flushed.
use Rattle.std.specs.Prelude.{IfErr, IfOk, ◌≡◌, ℕ, List, [], ◌∷◌, ◌++◌, Result, Ok, Err, map}
use Rattle.lite_write.specs.Uses.{◌∙◌, refl, sym, ap, subst, arith, append_assoc, error_kind, Error, Poll, Ready, Pending}
use Rattle.lite_write.specs.Uses.{Runs, MarkLaws, WriteMark, bytes_taken, taken_both, to_value_last, PolledByCalls}
use Rattle.std.proofs.Common.{inl, inr}
use Rattle.std.specs.List.{FoldsTo}
use Rattle.lite_base.proofs.Waited.{WaitedFor}
use Rattle.lite_base.specs.Answers.{Gives}
use Rattle.lite_base.specs.Laws.Segments.{segment_front}
use Rattle.lite_io_base.specs.Runs.{StandsFirst}
use Rattle.lite_io_base.specs.WriteMarks.{TakesFront}
use Rattle.lite_write.specs.Flush.{Flushes}
use Rattle.lite_write.specs.Handed.{FailsAfter, FailsBy, FlushedOnce, FlushedUp, HandedUp, OnlyWrites, WritesAndFlushes}
use Rattle.lite_write.specs.Laws.WriteAll.{WriteAllResult}
use Rattle.lite_write.specs.WriteAll.{Hands, Ended, HandsMarks, HandsOver, WritesAll}
use Rattle.lite_write.specs.declared.flush.FlushFuture.{FlushFuture}
use Rattle.lite_write.specs.declared.write_all.WriteAllFuture.{WriteAllFuture}
use denote.Ref.{MutBor, Bor}

later : (b m : List WriteMark) (t : WriteMark) (l : List WriteMark) → l ≡ m ++ t ∷ [] → b ++ l ≡ (b ++ m) ++ t ∷ []
later b m t l e = ap (λ k. b ++ k) e ∙ sym (append_assoc b m (t ∷ []))

only_both : (l m : List WriteMark) → OnlyWrites l → OnlyWrites m → OnlyWrites (l ++ m)
only_both [] m h k = k
only_both (WriteMark.pending ∷ l) m h k = only_both l m h k
only_both (WriteMark.wrote (x ∷ xs) ∷ l) m h k = only_both l m h k
only_both (_ ∷ l) m h k = absurd h

pub flushes_both : (l m : List WriteMark) → WritesAndFlushes l → WritesAndFlushes m → WritesAndFlushes (l ++ m)
flushes_both [] m h k = k
flushes_both (WriteMark.pending ∷ l) m h k = flushes_both l m h k
flushes_both (WriteMark.wrote (x ∷ xs) ∷ l) m h k = flushes_both l m h k
flushes_both (WriteMark.flushed ∷ l) m h k = flushes_both l m h k
flushes_both (_ ∷ l) m h k = absurd h

-- writes are writes and flushes
pub only_flushes : (l : List WriteMark) → OnlyWrites l → WritesAndFlushes l
only_flushes [] h = tt
only_flushes (WriteMark.pending ∷ l) h = only_flushes l h
only_flushes (WriteMark.wrote (x ∷ xs) ∷ l) h = only_flushes l h
only_flushes (_ ∷ l) h = absurd h

pub once_flushes : (l : List WriteMark) → FlushedOnce l → WritesAndFlushes l
once_flushes l h = rw h.2 (flushes_both h.0 (WriteMark.flushed ∷ []) (only_flushes h.0 h.1) tt)

fails_by : (b m l : List WriteMark) (e : Error) → FailsBy m l e → FailsBy (b ++ m) (b ++ l) e
fails_by b m l e (inl h) = inl (later b m _ l h)
fails_by b m l e (inr h) = inr (later b m _ l h.0, h.1)

fails_more : (b l : List WriteMark) (e : Error) → OnlyWrites b → FailsAfter OnlyWrites l e
    → FailsAfter OnlyWrites (b ++ l) e
fails_more b l e p h =
    record {
      before = b ++ h.before;
      fine = only_both b h.before p h.fine;
      last = fails_by b h.before l e h.last;
    }

-- marks that each took some of the bytes, from the front
hands_front : (p q : List ℕ) (l : List (List ℕ)) → FoldsTo Hands p l q
    → OnlyWrites (map WriteMark.wrote l) × (p ≡ bytes_taken (map WriteMark.wrote l) ++ q)
hands_front p q [] h = (tt, h)
hands_front p q ([] ∷ l) h = absurd (omega (arith, h.1.0))
hands_front p q ((x ∷ xs) ∷ l) h =
    let rest = hands_front h.0 q l h.2 in (
      rest.0,
      h.1.1 ∙ ap (λ r. (x ∷ xs) ++ r) rest.1
          ∙ sym (append_assoc (x ∷ xs) (bytes_taken (map WriteMark.wrote l)) q),
    )

-- a value, and what was taken before it
abbrev Handed : List ℕ → List WriteMark → WriteAllResult → Type 0
Handed p l v = StandsFirst (bytes_taken l) p × HandedUp p l v

ended_up : (p : List ℕ) (l : List WriteMark) (v : WriteAllResult) → Ended p l v → Handed p l v
ended_up p [] (Ok u) h = ((p, refl), (tt, sym h.0))
ended_up p [] (Err e) h = cc
ended_up p (WriteMark.wrote [] ∷ []) (Err e) h = (
  (p, refl),
  record {
    before = [];
    fine = tt;
    last = inr (refl, h.1);
  },
)
ended_up p (WriteMark.fault kind ∷ []) (Err e) h =
    ((p, refl), record { before = []; fine = tt; last = inl (rw (sym h.1)) })
ended_up p _ v h = absurd h

value_later : (p q : List ℕ) (b l : List WriteMark) (v : WriteAllResult) → OnlyWrites b → p ≡ bytes_taken b ++ q
    → HandedUp q l v → HandedUp p (b ++ l) v
value_later p q b l (Ok u) a front h =
    (only_both b l a h.0, taken_both b l ∙ ap (λ k. bytes_taken b ++ k) h.1 ∙ sym front)
value_later p q b l (Err e) a front h = fails_more b l e a h

handed_later : (p q : List ℕ) (b l : List WriteMark) (v : WriteAllResult) → OnlyWrites b → p ≡ bytes_taken b ++ q
    → Handed q l v → Handed p (b ++ l) v
handed_later p q b l v a front h =
    let rest = h.0.0 in
    let whole = front ∙ ap (λ k. bytes_taken b ++ k) h.0.1 ∙ sym (append_assoc (bytes_taken b) (bytes_taken l) rest) in
    ((rest, whole ∙ ap (λ k. k ++ rest) (sym (taken_both b l))), value_later p q b l v a front h.1)

-- a future that was polled to its value
handed_up : (p q : List ℕ) (i : List WriteMark) (l : List (Poll WriteAllResult)) (v : WriteAllResult) → HandsOver p i l q
    → Gives l v → Handed p i v
handed_up p q i [] v h g = absurd g
handed_up p q i (Pending ∷ l) v h g =
    let w = h.0.4 in
    let front = hands_front p w.between w.taken w.folds in
    let rest = subst (λ k. Handed k h.0.1 v) w.given.2 (handed_up h.0.2 q h.0.1 l v (h.0.5, h.1) g) in
    let after = handed_later w.between w.between (WriteMark.pending ∷ []) h.0.1 v tt refl rest in
    let whole = segment_front p h.0.2 i h.0.0 h.0.1 Pending w h.0.3
    ∙ ap (λ k. map WriteMark.wrote w.taken ++ (k ++ h.0.1)) w.given.0 in
    subst (λ k. Handed p k v) (sym whole)
    (handed_later p w.between (map WriteMark.wrote w.taken) (WriteMark.pending ∷ h.0.1) v front.0 front.1 after)
handed_up p q i (Ready r ∷ l) v h g =
    let c = to_value_last HandsMarks p q i r l h in
    let front = hands_front p c.between c.taken c.folds in
    let last = ended_up c.between c.last v (rw (← g.0) c.given.0) in
    subst (λ k. Handed p k v) (sym c.cut)
    (handed_later p c.between (map WriteMark.wrote c.taken) c.last v front.0 front.1 last)

pub flushed_later : (b l : List WriteMark) (v : WriteAllResult) → OnlyWrites b → FlushedUp l v → FlushedUp (b ++ l) v
flushed_later b l (Ok u) a h = (b ++ h.0, only_both b h.0 a h.1, later b h.0 WriteMark.flushed l h.2)
flushed_later b l (Err e) a h = fails_more b l e a h

module _ {W : Type 0} (writes : Runs WriteMark W) where
  handed_name : {E : Type 0} (x y : WriteAllFuture W) (r : Result WriteAllResult E) → WaitedFor (WritesAll writes) x r y
      → y.writer.ghost_name ≡ x.writer.ghost_name
  handed_name x y (Ok v) h = rw h.0.2.stays
  handed_name x y (Err e) h = rw h.1

  flushed_name : (x y : FlushFuture W) (l : List (Poll WriteAllResult)) → PolledByCalls (Flushes writes) x l y
      → y.writer.ghost_name ≡ x.writer.ghost_name
  flushed_name x y [] h = rw h
  flushed_name x y (Pending ∷ l) h = flushed_name h.0 y l h.2 ∙ ap (λ z. z.writer.ghost_name) h.1.stays
  flushed_name x y (Ready r ∷ l) h = rw h.0.stays

  flush_name : {E : Type 0} (x y : FlushFuture W) (r : Result WriteAllResult E)
      → WaitedFor (PolledByCalls (Flushes writes)) x r y → y.writer.ghost_name ≡ x.writer.ghost_name
  flush_name x y (Ok v) h = flushed_name x y h.0.0 h.0.2
  flush_name x y (Err e) h = rw h.1

  module _ (laws : MarkLaws writes) where
    handed_wait : {E : Type 0} (x y : WriteAllFuture W) (r : Result WriteAllResult E) (t : W) → t ≡ y.writer.now
        → WaitedFor (WritesAll writes) x r y
        → (took : List WriteMark) × TakesFront writes x.writer.now x.buf.now took t
        × IfOk r (λ v. HandedUp x.buf.now took v) × IfErr r (λ _. took ≡ [])
    handed_wait x y (Ok v) t e h =
        let all = h.0.2 in
        let up = handed_up x.buf.now y.buf.now all.marks h.0.0 v all.handed h.0.1 in
        (all.marks, (rw e all.came, up.0), up.1, tt)
    handed_wait x y (Err f) t e h = ([], (rw (e, h.1) (laws.rests x.writer.now), (x.buf.now, refl)), tt, refl)

    flushed_up : (x y : FlushFuture W) (l : List (Poll WriteAllResult)) (v : WriteAllResult)
        → PolledByCalls (Flushes writes) x l y → Gives l v
        → (took : List WriteMark) × writes x.writer.now took y.writer.now × (bytes_taken took ≡ []) × FlushedUp took v
    flushed_up x y [] v h g = absurd g
    flushed_up x y (Pending ∷ l) v h g =
        let rest = flushed_up h.0 y l v h.2 g in
        let ran = laws.follows x.writer.now h.0.writer.now y.writer.now
        (WriteMark.pending ∷ []) rest.0 h.1.came rest.1 in
        (WriteMark.pending ∷ rest.0, ran, rest.2, flushed_later (WriteMark.pending ∷ []) rest.0 v tt rest.3)
    flushed_up x y (Ready (Ok u) ∷ l) v h g =
        (WriteMark.flushed ∷ [], h.0.came, refl, subst (FlushedUp (WriteMark.flushed ∷ [])) g.0 ([], tt, refl))
    flushed_up x y (Ready (Err e) ∷ l) v h g =
        let last : FailsAfter OnlyWrites (WriteMark.fault (error_kind e) ∷ []) e =
        record { before = []; fine = tt; last = inl refl } in (
          WriteMark.fault (error_kind e) ∷ [],
          h.0.came,
          refl,
          subst (FlushedUp (WriteMark.fault (error_kind e) ∷ [])) g.0 last,
        )

    flush_wait : {E : Type 0} (x y : FlushFuture W) (r : Result WriteAllResult E) (t : W) → t ≡ y.writer.now
        → WaitedFor (PolledByCalls (Flushes writes)) x r y
        → (took : List WriteMark) × writes x.writer.now took t × (bytes_taken took ≡ [])
        × IfOk r (λ v. FlushedUp took v) × IfErr r (λ _. took ≡ [])
    flush_wait x y (Ok v) t e h =
        let up = flushed_up x y h.0.0 v h.0.2 h.0.1 in (up.0, rw e up.1, up.2, up.3, tt)
    flush_wait x y (Err f) t e h = ([], rw (e, h.1) (laws.rests x.writer.now), refl, tt, refl)

  module _ {E : Type 0} (b : MutBor W) (c : Bor (List ℕ)) (x y : WriteAllFuture W) (r : Result WriteAllResult E)
      (begins : x ≡ record { writer = b; buf = c })
      (waited : WaitedFor (WritesAll writes) x r y) where
    -- the reference is as before
    pub writer_lent : y.writer.ghost_name ≡ b.ghost_name
    writer_lent = handed_name x y r waited ∙ ap (λ z. z.writer.ghost_name) begins

    pub hand_up : MarkLaws writes → (t : W) → t ≡ y.writer.now
        → (took : List WriteMark) × TakesFront writes b.now c.now took t
        × IfOk r (λ v. HandedUp c.now took v) × IfErr r (λ _. took ≡ [])
    hand_up laws t e = rw begins at (handed_wait laws x y r t e waited)

  module _ {E : Type 0} (b : MutBor W) (x y : FlushFuture W) (r : Result WriteAllResult E) (begins : x ≡ record {
    writer = b;
  })
      (waited : WaitedFor (PolledByCalls (Flushes writes)) x r y) where
    pub flush_lent : y.writer.ghost_name ≡ b.ghost_name
    flush_lent = flush_name x y r waited ∙ ap (λ z. z.writer.ghost_name) begins

    pub flush_up : MarkLaws writes → (t : W) → t ≡ y.writer.now
        → (took : List WriteMark) × writes b.now took t × (bytes_taken took ≡ [])
        × IfOk r (λ v. FlushedUp took v) × IfErr r (λ _. took ≡ [])
    flush_up laws t e = rw begins at (flush_wait laws x y r t e waited)
