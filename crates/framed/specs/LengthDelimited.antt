-- Frames with the number of their bytes before them.
use Rattle.std.specs.Prelude.{◌≡◌, ◌⊎◌, ◌≤◌, ◌<◌, ◌^◌, ◌+◌, ℕ, List, [], ◌++◌, length}
use Rattle.std.specs.Int.{from_be_bytes, to_be_bytes, w32}
use Rattle.std.proofs.Common.{ap, append_assoc, arith, length-append, refl, sym, ◌∙◌}
use Rattle.std.proofs.lemmas.Nat.{from_be_bytes-to_be_bytes_4}
use Rattle.bytes.specs.Filled.{Filled}
use Rattle.tokio_util.specs.Codec.Next.{Gives}
use Rattle.framed.specs.FrameErrors.{SaysOutOfMemory, as_frame_error}
use Rattle.framed.specs.Pieces.{gives_pieces, same_fronts}
use Rattle.lent_frames.specs.Cutting.{Undecided}
use Rattle.framed.specs.declared.length_delimited.LengthDelimited.{LengthDelimited}
use Rattle.framed.specs.declared.cut_error.CutError.{CutError}
use Rattle.framed.specs.declared.frame_error.FrameError.{FrameError}
use Rattle.framed.specs.declared.frame_error.FrameError.TheVariants.{CutOff, TooLong}

-- A number in four bytes, the highest first.
abbrev pub length_header : ℕ → List ℕ
length_header n = to_be_bytes w32 n

-- The number of the bytes, and then the bytes.
abbrev pub frame_bytes : List ℕ → List ℕ
frame_bytes payload = length_header (length payload) ++ payload

-- The bytes of a payload whose length is within the limit.
abbrev pub FrameOf : LengthDelimited → List ℕ → List ℕ → Type 0
FrameOf c payload xs = (length payload ≤ c.max) × (length payload < 2 ^ 32) × (xs ≡ frame_bytes payload)

-- A number above the limit.
abbrev pub IsTooLong : LengthDelimited → List ℕ → FrameError → Type 0
IsTooLong c xs e = (n : ℕ) × (c.max < n) × (n < 2 ^ 32) × (xs ≡ length_header n) × (e ≡ TooLong n)

-- A number above the limit, by the smaller error.
abbrev pub IsTooLongCut : LengthDelimited → List ℕ → CutError → Type 0
IsTooLongCut c xs e = IsTooLong c xs (as_frame_error e)

-- Why a payload of `n` bytes is not encoded into a buffer with room for `spare` more: it is too long, or memory was
-- refused.
abbrev pub RefusesPayload : LengthDelimited → ℕ → ℕ → FrameError → Type 0
RefusesPayload c n spare e = ((c.max < n) × (e ≡ TooLong n)) ⊎ (SaysOutOfMemory e × (spare < 4 + n))

-- What the decoder gives.
abbrev pub gives_delimited : Gives LengthDelimited Filled FrameError
gives_delimited = gives_pieces (λ c v. FrameOf c v.items) IsTooLong SaysOutOfMemory (λ e. e ≡ CutOff)

-- Two numbers at the front of one list are one.
pub one_number : (n m : ℕ) (p q : List ℕ) → n < 2 ^ 32 → m < 2 ^ 32 → length_header n ++ p ≡ length_header m ++ q
    → (n ≡ m) × (p ≡ q)
one_number n m p q small short e =
    let parts = same_fronts (length_header n) (length_header m) p q refl e in (
      sym (from_be_bytes-to_be_bytes_4 n small) ∙ ap (from_be_bytes w32) parts.0 ∙ from_be_bytes-to_be_bytes_4 m short,
      parts.1,
    )

module _ (c : LengthDelimited) where
  -- No front of the bytes is a frame or is refused.
  abbrev Open : List ℕ → Type 0
  Open = Undecided {V = Filled} (λ c v. FrameOf c v.items) IsTooLong c

  -- Before the number is whole nothing is decided.
  pub open_head : (xs : List ℕ) → length xs < 4 → Open xs
  open_head xs short front rest is = (
    (λ v h. omega (arith, short, ap length is, ap length h.2, length-append front rest, length-append (length_header (length v.items)) v.items)),
    (λ e h. omega (arith, short, ap length is, ap length h.3, length-append front rest)),
  )

  -- Behind a number that is within the limit nothing is decided until there are as many bytes.
  pub open_payload : (n : ℕ) (xs more : List ℕ) → n ≤ c.max → n < 2 ^ 32 → xs ≡ length_header n ++ more → length more < n
      → Open xs
  open_payload n xs more within small head short front rest is = (
    (λ v h.
        let same = one_number n (length v.items) more (v.items ++ rest) small h.1
        (sym head ∙ is ∙ ap (λ l. l ++ rest) h.2 ∙ append_assoc (length_header (length v.items)) v.items rest) in
        omega (arith, short, same.0, ap length same.1, length-append v.items rest)),
    (λ e h.
        let same = one_number n h.0 more rest small h.2 (sym head ∙ is ∙ ap (λ l. l ++ rest) h.3) in
        omega (arith, within, same.0, h.1)),
  )

pub no_frame_empty : (c : LengthDelimited) (v : List ℕ) → FrameOf c v [] → ⊥
no_frame_empty c v h = omega (arith, ap length h.2, length-append (length_header (length v)) v)
