-- Futures and streams over an armed reader are armed.
use Rattle.std.specs.Prelude.{◌≡◌, ◌⊎◌, ℕ, List, [], ◌∷◌, IfSome, Result, refl, Bool, true, false}
use Rattle.std.proofs.Common.{inl, inr}
use Rattle.futures.specs.Task.{Lasting}
use Rattle.lite_read.specs.Uses.{Answer, Error, Poll, Ready, Pending, ReadMark, Runs, PolledByCalls}
use Rattle.lite_base.specs.Armed.{Arms, EndsPending, pends_last}
use Rattle.lite_io_base.specs.Armed.{ArmsRead, is_read_pending, last_is}
use Rattle.lite_io_base.specs.Laws.Armed.{polled_armed, segments_end}
use Rattle.lite_read.specs.Bytes.{BytesRegister, GivesBytes, GivesEach, RegistersInterrupted, interrupted_after}
use Rattle.lite_read.specs.FillBuf.{FillsOnce}
use Rattle.lite_read.specs.Read.{Reads}
use Rattle.lite_read.specs.ReadFold.{Gathers, GathersByRoom, LastMarks, ReadFold, Segmented}
use Rattle.lite_read.specs.ReadVectored.{ReadsVectored}
use Rattle.lite_read.specs.Segments.{Flows, StreamOver}
use Rattle.lite_read.specs.declared.fill_buf.FillBuf.{FillBuf}
use Rattle.lite_read.specs.declared.read.ReadFuture.{ReadFuture}
use Rattle.lite_read.specs.declared.read_vectored.ReadVectoredFuture.{ReadVectoredFuture}

-- The futures of one read or one fill.
module _ {R : Type 0} {reads : Runs ReadMark R} {registers : R → Lasting → Type 0} (a : ArmsRead reads registers) where
  pub read_arms : Arms (PolledByCalls (Reads reads)) (λ (x : ReadFuture R). registers x.reader.now)
  read_arms =
      record {
        at = polled_armed (Reads reads) (λ x. registers x.reader.now Lasting.armed)
            (λ x y c. a.at x.reader.now y.reader.now (ReadMark.pending ∷ []) refl c.came);
      }

  pub vectored_arms : Arms (PolledByCalls (ReadsVectored reads)) (λ (x : ReadVectoredFuture R). registers x.reader.now)
  vectored_arms =
      record {
        at = polled_armed (ReadsVectored reads) (λ x. registers x.reader.now Lasting.armed)
            (λ x y c. a.at x.reader.now y.reader.now (ReadMark.pending ∷ []) refl c.came.2);
      }

  pub fill_arms : {buffer_of : R → List ℕ} → Arms (PolledByCalls (FillsOnce reads buffer_of))
      (λ (x : FillBuf R) fact. IfSome x.reader (λ r. registers r.now fact))
  fill_arms {buffer_of} =
      record {
        at = polled_armed (FillsOnce reads buffer_of) (λ x. IfSome x.reader (λ r. registers r.now Lasting.armed))
            (λ x y c. rw c.after (a.at c.reader.now c.filled (ReadMark.pending ∷ []) refl c.came));
      }

-- The last mark of a poll that returns `Pending` is a `Pending`.
last_pending : {M R : Type 0} (fold : ReadFold M R) (p q : M) (last : List ReadMark) → LastMarks fold p last Pending q
    → (m : ReadMark) × (last ≡ m ∷ []) × (is_read_pending m ≡ true)
last_pending fold p q last h = (ReadMark.pending, h.0, refl)

module _ {S M R : Type 0} {reads : Runs ReadMark S} {registers : S → Lasting → Type 0} (a : ArmsRead reads registers)
    (fold : ReadFold M R) where
  segmented_arms : (s t : S) (p q : M) (l : List (Poll R)) → EndsPending l → Segmented fold reads s p l t q
      → registers t Lasting.armed
  segmented_arms s t p q l e h =
      a.at s t h.marks
      (segments_end is_read_pending ReadMark.byte fold.takes (LastMarks fold) (last_pending fold) p q h.marks l h.cut
      false false (λ n. n) e) h.came

module _ {X S M R : Type 0} {reader : X → S} {held : X → M} {Keeps : X → X → Type 0} {reads : Runs ReadMark S}
    {registers : S → Lasting → Type 0} (a : ArmsRead reads registers) where
  pub gathers_arms : {fold : X → ReadFold M R} → Arms (Gathers reader held fold Keeps reads) (λ x. registers (reader x))
  gathers_arms {fold} =
      record {
        at = λ x y l e h. segmented_arms a (fold x) (reader x) (reader y) (held x) (held y) l e h.folded;
      }

  pub room_arms : {fold : X → X → X → ReadFold M R} {Grows : X → X → Type 0}
      → Arms (GathersByRoom reader held fold Keeps Grows reads) (λ x. registers (reader x))
  room_arms {fold} =
      record {
        at = λ x y l e h.
            segmented_arms a (fold x y x) (reader x) (reader y) (held x) (held y) l e h.gathered.folded;
      }

-- The streams over a reader.
module _ {X S M K R : Type 0} (over : StreamOver X S M K) (fold : K → ReadFold M R) where
  pub flow_arms : {reads : Runs ReadMark S} {registers : S → Lasting → Type 0} → ArmsRead reads registers
      → Arms (Flows over fold reads) (λ x. registers (over.reader x))
  flow_arms a =
      record {
        at = λ x y l e h.
            segmented_arms a (fold (over.kept x)) (over.reader x) (over.reader y) (over.held x) (over.held y) l e
            h.segmented;
      }

-- The stream `bytes`. Whose its last `Pending` is: an interruption, as `interrupted_after` says, or the reader's.
each_pends : (before : Bool) (ms : List ReadMark) (l : List (Answer (Result ℕ Error))) (b c : Bool)
    → (b ≡ true → (before ≡ true) ⊎ (c ≡ true)) → GivesEach ms l → pends_last b l ≡ true
    → (interrupted_after before ms l ≡ true) ⊎ (last_is is_read_pending c ms ≡ true)
each_pends before [] [] b c k h e = k e
each_pends before (ReadMark.byte x ∷ ms) (Ready r ∷ l) b c k h e = each_pends before ms l false false (λ d. cc d) h.1 e
each_pends before (ReadMark.fault kind ∷ ms) (Ready r ∷ l) b c k h e =
    each_pends before ms l false false (λ d. cc d) h.1 e
each_pends before (ReadMark.fault kind ∷ ms) (Pending ∷ l) b c k h e =
    each_pends true ms l true false (λ d. inl refl) h.1 e
each_pends before (ReadMark.pending ∷ ms) (Pending ∷ l) b c k h e =
    each_pends false ms l true true (λ d. inr refl) h.1 e
each_pends before (ReadMark.end ∷ ms) (Ready r ∷ l) b c k h e = each_pends before ms l false false (λ d. cc d) h.1 e
each_pends before (ReadMark.byte x ∷ ms) (Pending ∷ l) b c k h e = absurd h.0
each_pends before (ReadMark.pending ∷ ms) (Ready r ∷ l) b c k h e = absurd h.0
each_pends before (ReadMark.end ∷ ms) (Pending ∷ l) b c k h e = absurd h.0
each_pends before ms l b c k h e = absurd h

module _ {R : Type 0} {reads : Runs ReadMark R} {registers : R → Lasting → Type 0} (a : ArmsRead reads registers) where
  interrupted_armed : (interrupted : Bool) (s t : R) (ms : List ReadMark) → reads s ms t
      → (interrupted ≡ true) ⊎ (last_is is_read_pending false ms ≡ true)
      → RegistersInterrupted interrupted (registers t) Lasting.armed
  interrupted_armed true s t ms came e = inl refl
  interrupted_armed false s t ms came (inl e) = cc e
  interrupted_armed false s t ms came (inr e) = a.at s t ms e came

  pub bytes_arms : Arms (GivesBytes reads) (BytesRegister registers)
  bytes_arms =
      record {
        at = λ x y l e h.
            interrupted_armed y.interrupted x.inner y.inner h.marks h.came
            (rw h.noted (each_pends x.interrupted h.marks l false false (λ d. cc d) h.told e));
      }
