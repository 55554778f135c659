-- A `BufWriter` is steady over a steady writer, and calm over a calm one.
use Rattle.std.specs.Prelude.{Bool, true, false, ◌≡◌, ℕ, List, [], ◌∷◌, ◌++◌}
use Rattle.futures.specs.Task.{Lasting}
use Rattle.lite_io_base.specs.Armed.{ArmsWrite, is_write_pending, last_is}
use Rattle.lite_io_base.specs.Laws.Armed.{arms_marks_part, last_join}
use Rattle.lite_buffered.specs.Uses.{◌∙◌, inl, inr, refl, sym, subst, append-nil, CalmWriteLaws}
use Rattle.lite_buffered.specs.Uses.{SteadyWriteLaws, WriteMark, bytes_taken, Runs, calm_part, steady_write_part}
use Rattle.lite_io_base.specs.Laws.Steady.{never_waits_parts}
use Rattle.lite_io_base.specs.Steady.{EndsFlushed, NoError, NoPendingWrite}
use Rattle.lite_buffered.specs.declared.buf_writer.BufWriter.{BufWriter}
use Rattle.lite_buffered.specs.Laws.BufWriter.{segments_done}
use Rattle.lite_buffered.specs.BufWriter.{Buffers, TakesHeld, WriterAnswers, WriterSegment, WriterSegments, unwritten}
use Rattle.lite_buffered.specs.BufReader.{Past}
use Rattle.lite_buffered.specs.declared.buf_reader.BufReader.{BufReader}

no_error_both : (l m : List WriteMark) → NoError l → NoError m → NoError (l ++ m)
no_error_both [] m a b = b
no_error_both (WriteMark.fault kind ∷ l) m a b = (a.0, no_error_both l m a.1 b)
no_error_both (c ∷ l) m a b = no_error_both l m a b

-- While held bytes are written, the only errors are interruptions.
drains_no_error : (before rest : List ℕ) (taken : List WriteMark) (n : ℕ) → TakesHeld before taken rest n
    → NoError taken
drains_no_error before _ _ _ TakesHeld.none = tt
drains_no_error before _ _ _ (TakesHeld.some ms xs rest n d more) =
    no_error_both ms _ (drains_no_error before _ ms n d) tt
drains_no_error before _ _ _ (TakesHeld.interrupted ms rest n d more few) =
    no_error_both ms _ (drains_no_error before rest ms n d) (refl, tt)

answers_no_error : (n : ℕ) (left after : List ℕ) (last : List WriteMark) (told : WriteMark) → NoError (told ∷ [])
    → WriterAnswers n left last told after → NoError last
answers_no_error n left after last (WriteMark.wrote xs) none (inl h) = rw h.0 tt
answers_no_error n left after last (WriteMark.wrote xs) none (inr h) = rw h.0 tt
answers_no_error n left after last WriteMark.nothing none (inl h) = rw h.0 tt
answers_no_error n left after last WriteMark.nothing none (inr h) = rw h.0 tt
answers_no_error n left after last (WriteMark.fault kind) none (inl f, h) = rw f.0 none
answers_no_error n left after last (WriteMark.fault kind) none (inr f, h) = rw f.0 tt
answers_no_error n left after last told none h = rw h.0 tt

segment_no_error : (before after : List ℕ) (taken : List WriteMark) (told : WriteMark) → NoError (told ∷ [])
    → WriterSegment before taken told after → NoError taken
segment_no_error before after taken told none s =
    rw s.cut (no_error_both s.drained s.last (drains_no_error before s.left s.drained s.interruptions s.drains)
    (answers_no_error s.interruptions s.left after s.last told none s.answers))

no_error_head : (told : WriteMark) (l : List WriteMark) → NoError (told ∷ l) → NoError (told ∷ []) × NoError l
no_error_head (WriteMark.fault kind) l a = ((a.0, tt), a.1)
no_error_head told l a = (tt, a)

segments_no_error : (before after : List ℕ) (taken out : List WriteMark) → NoError out
    → WriterSegments before taken out after → NoError taken
segments_no_error before after taken [] none h = rw h.0 tt
segments_no_error before after taken (told ∷ out) none h =
    let each = no_error_head told out none in
    rw h.3 (no_error_both h.0 h.1 (segment_no_error before h.2 h.0 told each.0 h.4)
    (segments_no_error h.2 after h.1 out each.1 h.5))

told_no_pending : (n : ℕ) (left after : List ℕ) (last out : List WriteMark) (told : WriteMark) → NoPendingWrite last
    → NoPendingWrite out → WriterAnswers n left last told after → NoPendingWrite (told ∷ out)
told_no_pending n left after last out WriteMark.pending a b h = absurd (subst NoPendingWrite h.0 a)
told_no_pending n left after last out told a b h = b

segments_no_pending : (before after : List ℕ) (taken out : List WriteMark) → NoPendingWrite taken
    → WriterSegments before taken out after → NoPendingWrite out
segments_no_pending before after taken [] a h = tt
segments_no_pending before after taken (told ∷ out) a h =
    let parts = never_waits_parts h.0 h.1 (rw (← h.3) a) in
    let s = h.4 in
    let last = (never_waits_parts s.drained s.last (rw (← s.cut) parts.0)).1 in
    told_no_pending s.interruptions s.left h.2 s.last out told last
    (segments_no_pending h.2 after h.1 out parts.1 h.5) s.answers

module _ {W : Type 0} (writes : Runs WriteMark W) where
  -- The inner writer's run if a flush came last: it ended in a flush without an error, and took the bytes held and all
  -- that were accepted. No byte is held.
  record Flushed (x : BufWriter W) (l : List WriteMark) (y : BufWriter W) : Type 0 where
    pub taken : List WriteMark
    pub ran : writes x.inner taken y.inner
    pub none : NoError taken
    pub last : EndsFlushed taken
    pub bytes : bytes_taken taken ≡ unwritten x ++ bytes_taken l
    pub empty : unwritten y ≡ []

  flushed : (x y : BufWriter W) (l : List WriteMark) → NoError l → EndsFlushed l → Buffers writes x l y → Flushed x l y
  flushed x y l none ends b =
      let last = segments_done (unwritten x) (unwritten y) b.taken ends.0 WriteMark.flushed tt
      (rw (← ends.1) b.segments) in
      record {
        taken = b.taken;
        ran = b.ran;
        none = segments_no_error (unwritten x) (unwritten y) b.taken l none b.segments;
        last = last.0;
        bytes = rw (b.balanced, last.1, append-nil);
        empty = last.1;
      }

-- Two `BufWriter`s hold equal bytes, over writers that are alike.
abbrev pub HeldAlike : {W : Type 0} → (W → W → Type 0) → BufWriter W → BufWriter W → Type 0
HeldAlike alike x y = (unwritten x ≡ unwritten y) × alike x.inner y.inner

module _ {W : Type 0} {writes : Runs WriteMark W} where
  pub buf_writer_steady : {alike : W → W → Type 0} {below : W → List ℕ} → SteadyWriteLaws writes alike below
      → SteadyWriteLaws (Buffers writes) (HeldAlike alike) (λ (x : BufWriter W). below x.inner)
  buf_writer_steady s =
      record {
        steady = λ x y x' y' l m e h k a b f g same.
            let p = flushed writes x x' l a f h in
            let q = flushed writes y y' m b g k in
            let bytes : bytes_taken p.taken ≡ bytes_taken q.taken = rw (p.bytes, q.bytes, e.0, same) in
            let inner = s.steady x.inner y.inner x'.inner y'.inner p.taken q.taken e.1 p.ran q.ran p.none q.none p.last
            q.last bytes in
            (inner.0, (p.empty ∙ sym q.empty, inner.1));
      }

  pub buf_writer_calm : {is_calm : W → Type 0} → CalmWriteLaws writes is_calm
      → CalmWriteLaws (Buffers writes) (λ (x : BufWriter W). is_calm x.inner)
  buf_writer_calm c =
      record {
        no_pending = λ x y l k h. segments_no_pending _ _ h.taken l
            (c.no_pending x.inner y.inner h.taken k h.ran) h.segments;
        calm_on = λ x y l k h. c.calm_on x.inner y.inner h.taken k h.ran;
      }

-- A `BufReader` is as steady and as calm a writer as its inner value.

module _ {R : Type 0} {writes : Runs WriteMark R} where
  pub past_steady : {alike : R → R → Type 0} {below : R → List ℕ} → SteadyWriteLaws writes alike below
      → SteadyWriteLaws (Past writes) (λ (x y : BufReader R). alike x.inner y.inner) (λ x. below x.inner)
  past_steady = steady_write_part (λ x. x.inner) (λ x y l h. h.0)

  pub past_calm : {is_calm : R → Type 0} → CalmWriteLaws writes is_calm
      → CalmWriteLaws (Past writes) (λ (x : BufReader R). is_calm x.inner)
  past_calm = calm_part (λ x. x.inner) (λ x y l h. h.0)

  pub past_arms : {registers : R → Lasting → Type 0} → ArmsWrite writes registers
      → ArmsWrite (Past writes) (λ (x : BufReader R). registers x.inner)
  past_arms = arms_marks_part (λ x. x.inner) (λ x y l h. h.0)

-- A `BufWriter` is armed if its inner writer is.

pending_last : (before : List ℕ) (taken : List WriteMark) (told : WriteMark) (after : List ℕ)
    → WriterSegment before taken told after → is_write_pending told ≡ true → (c : Bool)
    → last_is is_write_pending c taken ≡ true
pending_last before taken WriteMark.pending after h e c =
    rw h.cut (last_join is_write_pending c h.drained h.last ∙ (rw h.answers.0 refl))
pending_last before taken told after h e c = cc e

segments_last : (before : List ℕ) (taken out : List WriteMark) (after : List ℕ) → WriterSegments before taken out after
    → (b c : Bool) → (b ≡ true → c ≡ true) → last_is is_write_pending b out ≡ true
    → last_is is_write_pending c taken ≡ true
segments_last before taken [] after h b c k e = rw h.0 (k e)
segments_last before taken (m ∷ out) after h b c k e =
    let first = pending_last before h.0 m h.2 h.4 in
    let rest = segments_last h.2 h.1 out after h.5 (is_write_pending m) (last_is is_write_pending c h.0)
    (λ d. first d c) e in
    rw h.3 (last_join is_write_pending c h.0 h.1 ∙ rest)

pub buf_writer_arms : {W : Type 0} {writes : Runs WriteMark W} {registers : W → Lasting → Type 0}
    → ArmsWrite writes registers → ArmsWrite (Buffers writes) (λ (x : BufWriter W). registers x.inner)
buf_writer_arms a =
    record {
      at = λ x y l e h.
          a.at x.inner y.inner h.taken
          (segments_last (unwritten x) h.taken l (unwritten y) h.segments false false (λ n. n) e) h.ran;
    }
