-- Lines that end with a newline.
use Rattle.std.specs.Prelude.{◌≡◌, ◌≢◌, ◌⊎◌, ◌≤◌, ◌<◌, ◌+◌, ℕ, List, [], ◌∷◌, ◌++◌, length, Some}
use Rattle.std.proofs.Common.{ap, arith, length-append}
use Rattle.bytes.specs.Filled.{Filled}
use Rattle.framed.specs.Uses.{without_return}
use Rattle.tokio_util.specs.Codec.Next.{Gives}
use Rattle.framed.specs.FrameErrors.{SaysOutOfMemory, as_frame_error}
use Rattle.framed.specs.Heads.{FirstAt, HasNo}
use Rattle.framed.specs.Pieces.{gives_pieces}
use Rattle.framed.specs.declared.cut_error.CutError.{CutError}
use Rattle.framed.specs.declared.frame_error.FrameError.{FrameError}
use Rattle.framed.specs.declared.frame_error.FrameError.TheVariants.{CutOff, EndsInReturn, HasNewline, TooLong}
use Rattle.framed.specs.declared.line_delimited.LineDelimited.{LineDelimited}

-- A text without a newline.
abbrev pub HasNoNewline : List ℕ → Type 0
HasNoNewline text = HasNo 10 text

-- A text with a newline behind it.
abbrev pub with_newline : List ℕ → List ℕ
with_newline text = text ++ 10 ∷ []

-- The bytes of a line: a text of at most `max` bytes, and a newline. The line is the text without the `\r` that may end it.
abbrev pub LineOf : LineDelimited → List ℕ → List ℕ → Type 0
LineOf c line xs = (text : List ℕ) × HasNoNewline text × (length text ≤ c.max) × (line ≡ without_return text) × (xs ≡ with_newline text)

-- A byte more than a line may have, and no newline.
abbrev pub IsLongLine : LineDelimited → List ℕ → FrameError → Type 0
IsLongLine c xs e = HasNoNewline xs × (length xs ≡ c.max + 1) × (e ≡ TooLong (c.max + 1))

-- The same, by the smaller error.
abbrev pub IsLongLineCut : LineDelimited → List ℕ → CutError → Type 0
IsLongLineCut c xs e = IsLongLine c xs (as_frame_error e)

-- What the decoder gives.
abbrev pub gives_line_delimited : Gives LineDelimited Filled FrameError
gives_line_delimited = gives_pieces (λ c v. LineOf c v.items) IsLongLine SaysOutOfMemory (λ e. e ≡ CutOff)

-- Why a line is not encoded into a buffer with room for `spare` more bytes: it is too long, has a newline or ends in `\r`, or
-- memory was refused.
abbrev pub RefusesText : LineDelimited → List ℕ → ℕ → FrameError → Type 0
RefusesText c line spare e =
    ((c.max < length line) × (e ≡ TooLong (length line)))
    ⊎ ((at : ℕ) × FirstAt 10 line (Some at) × (e ≡ HasNewline at))
    ⊎ ((without_return line ≢ line) × (e ≡ EndsInReturn))
    ⊎ (SaysOutOfMemory e × (spare < length line + 1))

pub no_line_empty : (c : LineDelimited) (v : List ℕ) → LineOf c v [] → ⊥
no_line_empty c v h = omega (arith, ap length h.4, length-append h.0 (10 ∷ []))
