-- Frames of a reader that is never pending.
use Rattle.std.specs.Prelude.{List, [], ◌∷◌, ◌++◌, Result}
use Rattle.std.specs.List.{FoldsTo}
use Rattle.std.specs.declared.io.Error.{Error}
use Rattle.std.proofs.Common.{inl, inr}
use Rattle.framed.specs.Uses.{Answer, Pending, ReadMark, Ready, Runs, bytes}
use Rattle.lite_base.specs.Calm.{CalmLaws, NoPending}
use Rattle.lite_io_base.specs.Steady.{CalmReadLaws, NoPendingRead}
use Rattle.tokio_util.specs.Codec.Next.{Gives}
use Rattle.framed.specs.FrameLaws.{step_keeps}
use Rattle.framed.specs.Frames.{FrameStep, Framed}

-- A `Pending` behind some marks is one.
pub waits_last : (l : List ReadMark) → NoPendingRead (l ++ ReadMark.pending ∷ []) → ⊥
waits_last [] h = h
waits_last (ReadMark.pending ∷ l) h = h
waits_last (_ ∷ l) h = waits_last l h

module _ {T D X E : Type 0} (gives : Gives D X E) (from_gives : Error → E → Type 0) {reads : Runs ReadMark T}
    {is_calm : T → Type 0} (calm : CalmReadLaws reads is_calm) where
  keeps_calm : (x y : Framed T D) (a : Answer (Result X E)) → is_calm x.reader → FrameStep gives from_gives reads x a y → is_calm y.reader
  keeps_calm = step_keeps gives from_gives reads is_calm (λ s t l k h. calm.calm_on s t l k h)

  never : (x y : Framed T D) → is_calm x.reader → FrameStep gives from_gives reads x Pending y → ⊥
  never x y k (inl (r, is, after)) = cc is
  never x y k (inr (was, xs, last, came, h)) =
      waits_last (bytes xs) (calm.no_pending x.reader y.reader (bytes xs ++ ReadMark.pending ∷ []) k (rw h.0 at came))

  no_pending : (x y : Framed T D) (l : List (Answer (Result X E))) → is_calm x.reader → FoldsTo (FrameStep gives from_gives reads) x l y
      → NoPending l
  no_pending x y [] k h = tt
  no_pending x y (Pending ∷ l) k h = absurd (never x h.0 k h.1)
  no_pending x y (Ready r ∷ l) k h = no_pending h.0 y l (keeps_calm x h.0 (Ready r) k h.1) h.2

  calm_on : (x y : Framed T D) (l : List (Answer (Result X E))) → is_calm x.reader → FoldsTo (FrameStep gives from_gives reads) x l y
      → is_calm y.reader
  calm_on x y [] k h = rw (← h) k
  calm_on x y (a ∷ l) k h = calm_on h.0 y l (keeps_calm x h.0 a k h.1) h.2

  -- The stream is pending only if its reader is.
  pub frames_calm : CalmLaws (FoldsTo (FrameStep gives from_gives reads)) (λ (x : Framed T D). is_calm x.reader)
  frames_calm = record { no_pending = no_pending; calm_on = calm_on }
