-- The frames of `LengthDelimited` at the front of some bytes.
use Rattle.std.specs.Prelude.{◌≡◌, ◌≤◌, ◌<◌, ◌^◌, ◌+◌, ℕ, List, ◌++◌, length, take, drop, IsErr, IsErrAnd, Option, Result, Ok, Err}
use Rattle.std.proofs.Common.{◌∙◌, ap, arith, inr, length-drop, length-take-le, refl, sym, take-add, take-append-drop}
use Rattle.bytes.specs.Filled.{Filled}
use Rattle.tokio_util.specs.Codec.Next.{Decodes}
use Rattle.framed.specs.FrameErrors.{SaysOutOfMemory}
use Rattle.framed.specs.LengthDelimited.{FrameOf, gives_delimited, length_header}
use Rattle.framed.specs.declared.frame_error.FrameError.{FrameError}
use Rattle.framed.specs.declared.length_delimited.LengthDelimited.{LengthDelimited}

pub header_first : (n : ℕ) (xs : List ℕ) → take 4 xs ≡ length_header n → xs ≡ length_header n ++ drop 4 xs
header_first n xs e = sym (take-append-drop 4 xs) ∙ ap (λ l. l ++ drop 4 xs) e

module _ (c : LengthDelimited) (n : ℕ) (xs : List ℕ) (head : take 4 xs ≡ length_header n) (within : n ≤ c.max)
    (small : n < 2 ^ 32) (there : 4 + n ≤ length xs) where
  payload_length : length (take n (drop 4 xs)) ≡ n
  payload_length = length-take-le n (drop 4 xs) (omega (arith, there, length-drop 4 xs))

  whole_front : FrameOf c (take n (drop 4 xs)) (take (4 + n) xs)
  whole_front = (
    omega (arith, payload_length, within),
    omega (arith, payload_length, small),
    take-add 4 n xs ∙ rw (head, payload_length) refl,
  )

  -- For a frame that is there memory was refused.
  pub frame_refused : (r : Result (Option Filled) FrameError) → IsErr r → IsErrAnd r SaysOutOfMemory → (ys : List ℕ) → ys ≡ xs
      → Decodes gives_delimited c xs r c ys
  frame_refused (Ok v) is h ys same = cc is
  frame_refused (Err e) is h ys same = (
    refl,
    same,
    (take (4 + n) xs, drop (4 + n) xs, sym (take-append-drop (4 + n) xs), inr (h, record { items = take n (drop 4 xs); spare = 0 }, whole_front)),
  )
