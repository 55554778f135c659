-- Decoders that give a frame at its last byte.
use Rattle.std.specs.Prelude.{◌≡◌, ◌<◌, ℕ, List, [], ◌++◌, length, Some, Ok}
use Rattle.tokio_util.specs.Codec.Next.{Gives, at_end, decoded, partial}

-- `owes` says how many frames of no bytes a decoder may give.
pub record PromptLaws {D X E : Type 0} (gives : Gives D X E) (owes : D → ℕ) : Type 0 where
  -- A frame is a front of the bytes, and is given of these bytes alone.
  pub alone : (s : D) (xs : List ℕ) (x : X) (t : D) (ys : List ℕ) → gives s xs (decoded (Ok x) t ys)
      → (frame : List ℕ) × (xs ≡ frame ++ ys) × gives s frame (decoded (Ok x) t [])
  -- A frame of no bytes is one of those that are owed.
  pub owed : (s : D) (x : X) (t : D) → gives s [] (decoded (Ok x) t []) → owes t < owes s
  -- If more bytes are needed, no frame is owed.
  pub waits : (s : D) (xs : List ℕ) → gives s xs partial → owes s ≡ 0
  -- A frame that is given because the input ends takes bytes.
  pub last : (s : D) (xs : List ℕ) (x : X) (t : D) (ys : List ℕ) → gives s xs (at_end (Ok (Some x)) t ys)
      → length ys < length xs
