-- Waiting for a frame.
use Rattle.std.specs.Prelude.{◌≡◌, List, Option, Some, None, Result, refl}
use Rattle.std.specs.List.{FoldsTo}
use Rattle.std.specs.declared.io.Error.{Error}
use Rattle.std.proofs.Common.{◌∙◌, ap, sym}
use Rattle.lite_base.specs.Answers as answers
use Rattle.futures.specs.declared.task.Poll.{Poll}
use Rattle.framed.specs.Uses.{Answer, MarkLaws, ReadMark, Ready, Runs, ToldStripped}
use Rattle.lite_base.specs.Runs.{Lent}
use Rattle.lite_consume.specs.Consume.{Folds}
use Rattle.lite_consume.specs.Consuming.{Consumes, Decides}
use Rattle.lite_consume.specs.Laws.Consuming.{consumes_steps}
use Rattle.lite_consume.specs.Next.{nexts}
use Rattle.lite_consume.specs.declared.consume.Consume.{Consume}
use Rattle.lite_consume.specs.declared.next.Next.{Next}
use denote.MutBor.{MutBor}
use Rattle.tokio_util.specs.Codec.Next as codec
use Rattle.tokio_util.specs.Codec.Next.{PartialHasNoFrame}
use Rattle.framed.specs.Frames.{FrameStep, Framed}
use Rattle.framed.specs.ToldLaws.{polls_told}

-- what is known of a value is known of one that equals it
pub at_value : {S : Type 0} (P : S → Type 0) {x y : S} → P x → y ≡ x → P y
at_value P h e = rw e h

-- The value of `next` is the first that the stream gave, which is its last result.
module _ {M A : Type 0} (q : M) (v : Option A) where
  first_given : (p : M) (o r : Option A) → Decides nexts p (Ready o) (Ready r) q → r ≡ v → o ≡ v
  first_given p None r d e = sym d ∙ e
  first_given p (Some x) r d e = sym d ∙ e

  next_gives : (p : M) (i : List (Answer A)) (l : List (Poll (Option A))) → answers.Gives l v
      → Consumes nexts p i l q → answers.Gives i v
  next_gives p i l g h =
      consumes_steps nexts (λ p i l. answers.Gives l v → answers.Gives i v) (λ p m x i b l t k. absurd t)
      (λ p i l k. k) q (λ p o r d g. (first_given p o r d g.0, refl)) p i l (λ g. g) h g

-- A wait for the next frame.
pub frame_waited : {T D X E : Type 0} (gives : codec.Gives D X E) (from_gives : Error → E → Type 0)
    (reads : Runs ReadMark T) → PartialHasNoFrame gives → MarkLaws reads
    → (x y : Consume (MutBor (Framed T D)) Next) (v : Option (Result X E))
    → (l : List (Poll (Option (Result X E)))) × answers.Gives l v
    × Folds (Lent (FoldsTo (FrameStep gives from_gives reads))) nexts x l y
    → FrameStep gives from_gives (ToldStripped reads) x.stream.now (Ready v) y.stream.now
    × (y.stream.ghost_name ≡ x.stream.ghost_name)
frame_waited gives from_gives reads no_frame laws x y v (l, g, h) =
    let given = next_gives y.folder v x.folder h.ins l g h.consumed in (
      polls_told gives from_gives reads no_frame laws x.stream.now y.stream.now h.ins v given h.came.0,
      ap (λ r. r.ghost_name) h.came.1,
    )
