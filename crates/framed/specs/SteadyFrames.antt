-- Frames that do not depend on when the reader was pending, and decoders that find the same frames however the bytes are
-- cut.
use Rattle.std.specs.Prelude.{◌≡◌, ℕ, List, Some, None, Result, Ok, Err, ⊤}
use Rattle.std.specs.IoError.{error_kind}
use Rattle.std.specs.List.{FoldsTo}
use Rattle.std.specs.declared.io.Error.{Error}
use Rattle.std.specs.declared.io.ErrorKind.TheVariants.{OutOfMemory}
use Rattle.framed.specs.Uses.{Answer, ReadMark, Ready, Runs}
use Rattle.lite_base.specs.Alike.{SameItem, Sameness}
use Rattle.framed.specs.Frames.{FrameStep, Framed}
use Rattle.tokio_util.specs.Codec.Next.{Gives, Next, at_end, decoded, partial}

-- What comes is no error that says, by `lacks`, that memory was refused.
abbrev pub RefusesNothing : {D X E : Type 0} → (E → Type 0) → Next D X E → Type 0
RefusesNothing lacks (decoded (Err e) t ys) = lacks e → ⊥
RefusesNothing lacks (at_end (Err e) t ys) = lacks e → ⊥
RefusesNothing lacks next = ⊤

-- Two outcomes of one input are one: both are the same frame, which leaves the same, or both are errors that are the same, or
-- in both no whole frame is there.
abbrev pub SameOutcome : {D X E : Type 0} → Sameness (Result X E) → Next D X E → Next D X E → Type 0
SameOutcome same (decoded (Ok v) t ys) (decoded (Ok w) u zs) = SameItem same (Ok v) (Ok w) × (t ≡ u) × (ys ≡ zs)
SameOutcome same (decoded (Err d) t ys) (decoded (Err e) u zs) = SameItem same (Err d) (Err e)
SameOutcome same (at_end (Ok None) t ys) (at_end (Ok None) u zs) = ⊤
SameOutcome same (at_end (Ok (Some v)) t ys) (at_end (Ok (Some w)) u zs) = SameItem same (Ok v) (Ok w) × (t ≡ u) × (ys ≡ zs)
SameOutcome same (at_end (Err d) t ys) (at_end (Err e) u zs) = SameItem same (Err d) (Err e)
SameOutcome same partial partial = ⊤
SameOutcome same partial (at_end r u zs) = ⊤
SameOutcome same (at_end r t ys) partial = ⊤
SameOutcome same next other = ⊥

-- What a `SteadyDecoder` promises. `lacks` are the errors that say that memory was refused, and `same` says when two items
-- are the same.
pub record OneOutcome {D X E : Type 0} (gives : Gives D X E) (from_gives : Error → E → Type 0) (lacks : E → Type 0)
    (same : Sameness (Result X E)) : Type 0 where
  -- Whatever the bytes are, at most one outcome comes of them, unless memory is refused.
  pub one : (c : D) (xs : List ℕ) (next other : Next D X E) → gives c xs next → gives c xs other → RefusesNothing lacks next
      → RefusesNothing lacks other → SameOutcome same next other
  -- Errors of a reader become the same errors if they are of one kind.
  pub causes : (d e : Error) (a b : E) → from_gives d a → from_gives e b → error_kind d ≡ error_kind e
      → SameItem same (Err a) (Err b)
  -- An error that says that memory was refused becomes one that says so.
  pub lacking : (cause : Error) (e : E) → from_gives cause e → error_kind cause ≡ OutOfMemory → lacks e

-- The result is no error that says that memory was refused.
abbrev pub IsUnrefused : {X E : Type 0} → (E → Type 0) → Answer (Result X E) → Type 0
IsUnrefused lacks (Ready (Some (Err e))) = lacks e → ⊥
IsUnrefused lacks a = ⊤

module _ {T D X E : Type 0} (gives : Gives D X E) (from_gives : Error → E → Type 0) (lacks : E → Type 0)
    (ample : Runs ReadMark T) where
  -- Polls to which no memory was refused, over runs of the reader that are ample.
  abbrev pub AmpleFrames : Runs (Answer (Result X E)) (Framed T D)
  AmpleFrames = FoldsTo (λ x a y. FrameStep gives from_gives ample x a y × IsUnrefused lacks a)

-- Two framed readers are alike if their readers are, and all else is equal.
abbrev pub FramesAlike : {T D : Type 0} → (T → T → Type 0) → Framed T D → Framed T D → Type 0
FramesAlike alike x y = alike x.reader y.reader × (x.decoder ≡ y.decoder) × (x.held ≡ y.held) × (x.phase ≡ y.phase)
