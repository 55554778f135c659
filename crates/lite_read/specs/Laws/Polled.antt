-- The futures of one read or one fill, `read`, `read_vectored` and `fill_buf`, are never pending over a calm reader.
use Rattle.std.specs.Prelude.{List, ℕ, Result, IfSome, Option, Ok, Err}
use Rattle.lite_read.specs.Uses.{Ready, Pending, CalmLaws, Runs, subst, sym, Bor, MutBor, Error, ReadMark}
use Rattle.lite_read.specs.Uses.{fill_marks, CalmReadLaws, PolledByCalls}
use Rattle.lite_base.specs.Laws.FutureLaws.{calls_calm, polled_calm}
use Rattle.lite_read.specs.FillBuf.{FillsOnce, held_after}
use Rattle.lite_read.specs.Read.{Reads}
use Rattle.lite_read.specs.ReadVectored.{ReadsVectored}
use Rattle.lite_read.specs.declared.fill_buf.FillBuf.{FillBuf}
use Rattle.lite_read.specs.declared.read.ReadFuture.{ReadFuture}
use Rattle.lite_read.specs.declared.read_vectored.ReadVectoredFuture.{ReadVectoredFuture}

-- The reader that a `fill_buf` future holds, if it holds one, is calm.
abbrev HeldCalm : {R : Type 0} → (R → Type 0) → Option (MutBor R) → Type 0
HeldCalm is_calm held = IfSome held (λ r. is_calm r.now)

held_calm : {R : Type 0} (is_calm : R → Type 0) (r : Result (Bor (List ℕ)) Error) (m : MutBor R) → is_calm m.now
    → HeldCalm is_calm (held_after (Ready r) m)
held_calm is_calm (Ok s) m k = tt
held_calm is_calm (Err e) m k = k

module _ {R : Type 0} {reads : Runs ReadMark R} {is_calm : R → Type 0}
    (c : CalmReadLaws reads is_calm) where
  pub read_calm : CalmLaws (PolledByCalls (Reads reads)) (λ (x : ReadFuture R). is_calm x.reader.now)
  read_calm = calls_calm (Reads reads) (λ x. x.reader.now) (λ x y r h. (_, h.came)) (λ x y h n. n) c

  pub vectored_calm :
      CalmLaws (PolledByCalls (ReadsVectored reads)) (λ (x : ReadVectoredFuture R). is_calm x.reader.now)
  vectored_calm =
      calls_calm (ReadsVectored reads) (λ x. x.reader.now) (λ x y r h. (_, h.came.2)) (λ x y h n. n) c

  pub fill_calm : {buffer_of : R → List ℕ}
      → CalmLaws (PolledByCalls (FillsOnce reads buffer_of)) (λ (x : FillBuf R). HeldCalm is_calm x.reader)
  fill_calm {buffer_of} =
      polled_calm (FillsOnce reads buffer_of)
      (λ x y k h.
      c.no_pending h.reader.now h.filled (fill_marks {A = Bor (List ℕ)} Pending (buffer_of h.filled))
      (rw h.held at k) h.came)
      (λ x y r k h.
      let calm =
      c.calm_on h.reader.now h.filled (fill_marks (Ready r) (buffer_of h.filled))
      (subst (HeldCalm is_calm) h.held k) h.came in
      subst (HeldCalm is_calm) (sym h.after) (held_calm is_calm r (record h.reader { now = h.filled }) calm))
