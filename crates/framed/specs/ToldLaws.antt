-- Laws of a poll that is never pending: of what is read while one waits for a frame.
use Rattle.std.specs.Prelude.{◌≡◌, ℕ, List, [], ◌∷◌, ◌++◌, Option, Some, None, Result, Ok, Err, refl}
use Rattle.std.specs.List.{FoldsTo}
use Rattle.std.specs.declared.io.Error.{Error}
use Rattle.std.proofs.Common.{◌∙◌, append-nil, ap, inl, inr}
use Rattle.lite_base.specs.Answers as answers
use Rattle.framed.specs.Uses.{Answer, MarkLaws, Pending, Ranks, ReadCounting, ReadMark, Ready, Runs, ToldStripped}
use Rattle.framed.specs.Uses.{bytes}
use Rattle.lite_io_base.specs.Steady.{strip_marks}
use Rattle.lite_io_base.specs.Laws.Told.{told_follow, told_none}
use Rattle.tokio_util.specs.Codec.Next.{Gives, PartialHasNoFrame}
use Rattle.framed.specs.Frames.{FrameStep, Framed, InHand, PollGives, NoFrame, reading}
use Rattle.framed.specs.FrameLaws.{joined}

strip_bytes : (xs : List ℕ) (l : List ReadMark) → strip_marks (bytes xs ++ l) ≡ bytes xs ++ strip_marks l
strip_bytes [] l = refl
strip_bytes (x ∷ xs) l = ap (λ m. ReadMark.byte x ∷ m) (strip_bytes xs l)

only_bytes : (xs : List ℕ) → strip_marks (bytes xs) ≡ bytes xs
only_bytes [] = refl
only_bytes (x ∷ xs) = ap (λ m. ReadMark.byte x ∷ m) (only_bytes xs)

-- The laws of a reader's runs without the `Pending`s.
pub stripped_laws : {T : Type 0} {reads : Runs ReadMark T} → MarkLaws reads → MarkLaws (ToldStripped reads)
stripped_laws laws = record { rests = told_none laws; follows = told_follow laws }

module _ {T D X E : Type 0} (gives : Gives D X E) (from_gives : Error → E → Type 0) (reads : Runs ReadMark T) where
  -- The last mark of a poll that was ready is no `pending`.
  last_stays : (x y : Framed T D) (xs : List ℕ) (last : List ReadMark) (r : Option (Result X E))
      → PollGives gives from_gives x xs last (Ready r) y → strip_marks last ≡ last
  last_stays x y xs last None k = rw k.0 refl
  last_stays x y xs last (Some (Ok v)) (inl k) = rw k.0 refl
  last_stays x y xs last (Some (Ok v)) (inr k) = rw k.0 refl
  last_stays x y xs last (Some (Err e)) (inl k) = rw k.0 refl
  last_stays x y xs last (Some (Err e)) (inr (inl k)) = rw k.0 refl
  last_stays x y xs last (Some (Err e)) (inr (inr k)) =
      elim k.0.2 [ inl e ↦ rw e refl | inr e ↦ rw e.0 refl ]

  pub ready_told : (x y : Framed T D) (r : Option (Result X E)) → FrameStep gives from_gives reads x (Ready r) y
      → FrameStep gives from_gives (ToldStripped reads) x (Ready r) y
  ready_told x y r (inl h) = inl h
  ready_told x y r (inr (was, xs, last, came, polled)) =
      inr (
        was,
        xs,
        last,
        (_, came, strip_bytes xs last ∙ ap (λ l. bytes xs ++ l) (last_stays x y xs last r polled)),
        polled,
      )

  module _ (no_frame : PartialHasNoFrame gives) (laws : MarkLaws reads) where
    then_told : (x m z : Framed T D) (r : Option (Result X E)) (xs : List ℕ) → x.phase ≡ reading → NoFrame gives x xs m
        → ToldStripped reads x.reader (bytes xs) m.reader
        → FrameStep gives from_gives (ToldStripped reads) m (Ready r) z
        → FrameStep gives from_gives (ToldStripped reads) x (Ready r) z
    then_told x m z r xs was waits came h =
        joined gives from_gives (ToldStripped reads) (stripped_laws laws) no_frame x m z (Ready r) xs was waits came h

    pub pending_told : (x m z : Framed T D) (r : Option (Result X E)) → FrameStep gives from_gives reads x Pending m
        → FrameStep gives from_gives (ToldStripped reads) m (Ready r) z
        → FrameStep gives from_gives (ToldStripped reads) x (Ready r) z
    pending_told x m z r (inl (q, is, after)) h = cc is
    pending_told x m z r (inr (was, xs, last, came, polled)) h =
        then_told x m z r xs was polled.1 (_, came, strip_bytes xs last ∙ rw polled.0 (append-nil _)) h

    -- Polls up to the first that is ready are one poll that is never pending.
    pub polls_told : (x y : Framed T D) (ins : List (Answer (Result X E))) (v : Option (Result X E)) → answers.Gives ins v
        → FoldsTo (FrameStep gives from_gives reads) x ins y
        → FrameStep gives from_gives (ToldStripped reads) x (Ready v) y
    polls_told x y [] v g h = absurd g
    polls_told x y (Pending ∷ l) v g h = pending_told x h.0 y v h.1 (polls_told h.0 y l v g h.2)
    polls_told x y (Ready w ∷ l) v g h =
        let same : h.0 ≡ y = rw g.1 at h.2 in
        let step = rw (g.0, same) at h.1 in
        ready_told x y v step

    -- An item that was in hand is one that a poll returns.
    pub hand_told : (buffer_of : T → List ℕ) (x y : Framed T D) (r : Option (Result X E))
        → InHand gives from_gives reads buffer_of x (Ready r) y
        → FrameStep gives from_gives (ToldStripped reads) x (Ready r) y
    hand_told buffer_of x y r (inl h) = inl (r, refl, h)
    hand_told buffer_of x y r (inr (was, xs, came, shown, polled)) =
        ready_told x y r (inr (was, xs, [], rw (append-nil (bytes xs)) came, polled))

    -- If none was in hand, the next one comes of all bytes, those that were in hand among them.
    pub then_hand_told : (buffer_of : T → List ℕ) (x m z : Framed T D) (r : Option (Result X E))
        → InHand gives from_gives reads buffer_of x Pending m
        → FrameStep gives from_gives (ToldStripped reads) m (Ready r) z
        → FrameStep gives from_gives (ToldStripped reads) x (Ready r) z
    then_hand_told buffer_of x m z r (was, came, none, waits) h =
        then_told x m z r (buffer_of x.reader) was waits (_, came, only_bytes (buffer_of x.reader)) h

  pub told_counting : {r : Ranks T} → ReadCounting reads r → (x y : Framed T D) (a : Answer (Result X E))
      → r.counts x.reader → FrameStep gives from_gives (ToldStripped reads) x a y → r.counts y.reader
  told_counting c x y a k (inl (r, is, inl h)) = rw h.2 k
  told_counting c x y a k (inl (r, is, inr h)) = rw h.2 k
  told_counting c x y a k (inr h) = c.counts_on _ _ _ k h.3.1
