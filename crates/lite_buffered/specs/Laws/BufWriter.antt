-- Laws of `BufWriter`.
use Rattle.std.specs.Prelude.{◌≡◌, ℕ, List, [], ◌∷◌, ◌++◌}
use Rattle.lite_buffered.specs.Uses.{◌∙◌, inl, inr, refl, sym, ap, append_assoc, append-nil, MarkLaws, WriteMark, bytes_taken, Runs}
use Rattle.lite_base.specs.Laws.Segments.{segments_join}
use Rattle.lite_io_base.specs.Laws.Marks.{taken_both}
use Rattle.lite_io_base.specs.Stored.{Arrives, Stored}
use Rattle.lite_io_base.specs.WriteMarks.{bytes_in}
use Rattle.lite_buffered.specs.BufWriter.{Balanced, Buffers, TakesHeld, WriterAnswers, WriterSegment, WriterSegments, unwritten}
use Rattle.lite_buffered.specs.declared.buf_writer.BufWriter.{BufWriter}

-- The bytes held before are those that the inner writer took, followed by those left.
pub drains_balance : (before rest : List ℕ) (taken : List WriteMark) (n : ℕ) → TakesHeld before taken rest n
    → before ≡ bytes_taken taken ++ rest
drains_balance before _ _ _ TakesHeld.none = refl
drains_balance before _ _ _ (TakesHeld.some ms xs rest n d more) =
    rw (taken_both, append-nil, append_assoc) (drains_balance before _ ms n d)
drains_balance before _ _ _ (TakesHeld.interrupted ms rest n d more few) =
    rw (taken_both, append-nil) (drains_balance before rest ms n d)

answers_balance : (n : ℕ) (left after : List ℕ) (last : List WriteMark) (told : WriteMark)
    → WriterAnswers n left last told after
    → left ++ bytes_in told ≡ bytes_taken last ++ after
answers_balance n left after last (WriteMark.wrote xs) (inl h) = rw (h.0, h.2)
answers_balance n left after last (WriteMark.wrote xs) (inr h) =
    rw (h.0, h.1, h.2) (sym (append-nil (xs ++ []) ∙ append-nil xs))
answers_balance n left after last WriteMark.nothing (inl h) = rw (h.0, h.1) (append-nil left)
answers_balance n left after last WriteMark.nothing (inr h) = rw (h.0, h.1, h.2)
answers_balance n left after last WriteMark.pending h = rw (h.0, h.1) (append-nil left)
answers_balance n left after last (WriteMark.fault kind) (inl f, h) = rw (f.0, h) (append-nil left)
answers_balance n left after last (WriteMark.fault kind) (inr f, h) = rw (f.0, h) (append-nil left)
answers_balance n left after last told h = rw (h.0, h.1, h.2)

pub segment_balance : (before after : List ℕ) (taken : List WriteMark) (told : WriteMark)
    → WriterSegment before taken told after
    → before ++ bytes_in told ≡ bytes_taken taken ++ after
segment_balance before after taken told s =
    rw (
      drains_balance before s.left s.drained s.interruptions s.drains,
      s.cut,
      taken_both,
      append_assoc,
      answers_balance s.interruptions s.left after s.last told s.answers,
      append_assoc,
    )

-- If no byte is lost in two runs, none is lost in both together.
balanced_both : (a b c : List ℕ) (taken more out next : List WriteMark) → Balanced a out taken b
    → Balanced b next more c
    → Balanced a (out ++ next) (taken ++ more) c
balanced_both a b c taken more out next h k =
    rw (taken_both, taken_both, ← append_assoc, h, append_assoc, k, append_assoc)

pub balanced_one : (before after : List ℕ) (taken : List WriteMark) (told : WriteMark)
    → WriterSegment before taken told after → Balanced before (told ∷ []) taken after
balanced_one before after taken told s =
    ap (λ l. before ++ l) (append-nil _) ∙ segment_balance before after taken told s

module _ {W : Type 0} {writes : Runs WriteMark W} (laws : MarkLaws writes) where
  pub buffers_laws : MarkLaws (Buffers writes)
  buffers_laws = record {
    rests = λ x. record {
      taken = [];
      ran = laws.rests x.inner;
      capacity = refl;
      segments = (refl, refl);
      balanced = append-nil _;
    };
    follows = λ x y z l m a b. record {
      taken = a.taken ++ b.taken;
      ran = laws.follows _ _ _ a.taken b.taken a.ran b.ran;
      capacity = b.capacity ∙ a.capacity;
      segments = segments_join WriterSegment _ _ _ a.taken b.taken l m a.segments b.segments;
      balanced = balanced_both _ _ _ a.taken b.taken l m a.balanced b.balanced;
    };
  }

-- The inner writer's last mark is this one.
abbrev pub EndsIn : WriteMark → List WriteMark → Type 0
EndsIn m l = (before : List WriteMark) × (l ≡ before ++ m ∷ [])

answers_done : (n : ℕ) (left after : List ℕ) (last : List WriteMark) (m : WriteMark) → Arrives m
    → WriterAnswers n left last m after
    → (last ≡ m ∷ []) × (after ≡ [])
answers_done n left after last WriteMark.flushed a h = (h.0, h.2)
answers_done n left after last WriteMark.closed a h = (h.0, h.2)
answers_done n left after last _ a h = absurd a

-- If a flush or a close comes last, it is the inner writer's last mark, too, and no byte is held.
pub segments_done : (before after : List ℕ) (taken out : List WriteMark) (m : WriteMark) → Arrives m
    → WriterSegments before taken (out ++ m ∷ []) after
    → EndsIn m taken × (after ≡ [])
segments_done before after taken [] m a h =
    let s = h.4 in
    let done = answers_done s.interruptions s.left h.2 s.last m a s.answers in
    ((s.drained, rw (h.3, h.5.0, append-nil, s.cut, done.0)), h.5.1 ∙ done.1)
segments_done before after taken (told ∷ out) m a h =
    let rest = segments_done h.2 after h.1 out m a h.5 in
    let whole = h.3 ∙ ap (λ l. h.0 ++ l) rest.0.1 ∙ sym (append_assoc h.0 rest.0.0 (m ∷ [])) in
    ((h.0 ++ rest.0.0, whole), rest.1)

-- What is known of a `BufWriter`: it keeps what its inner writer keeps, followed by the bytes held. What has arrived is
-- what has arrived there.
abbrev pub buffers_stored : {W : Type 0} → Stored W → Stored (BufWriter W)
buffers_stored s = record {
  told = Buffers s.told;
  stores = λ x. s.stores x.inner;
  kept = λ x. s.kept x.inner ++ unwritten x;
  arrived = λ x. s.arrived x.inner;
  arrives = λ x y l m know b a.
      let done = segments_done (unwritten x) (unwritten y) b.taken l m a b.segments in
      let all = s.arrives x.inner y.inner done.0.0 m know (rw (← done.0.1) b.ran) a in
      all ∙ sym (rw (done.1, append-nil) refl);
  tells = λ x y l know b.
      let inner = s.tells x.inner y.inner b.taken know b.ran in
      (inner.0, rw (inner.1, append_assoc, ← b.balanced, append_assoc));
}
