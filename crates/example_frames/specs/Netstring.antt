-- Netstrings.
use Rattle.std.specs.Prelude.{◌≡◌, ◌≢◌, ◌⊎◌, ◌≤◌, ◌<◌, ◌+◌, ◌^◌, ℕ, List, [], ◌∷◌, decimal, length}
use Rattle.std.proofs.Common.{arith, inl, inr, sym, ◌∙◌}
use Rattle.std.proofs.lemmas.Fmt.{decimal_injective}
use Rattle.framed.specs.FrameErrors.{SaysOutOfMemory}
use Rattle.framed.specs.Heads.{HeadForm}
use Rattle.framed.specs.declared.FrameError.{FrameError}
use Rattle.framed.specs.declared.FrameError.TheVariants.{Malformed, TooLong}
use Rattle.example_frames.specs.declared.netstring.Netstring.{Netstring}

-- A head has the number of the bytes, which is within the limit.
abbrev pub SaysLength : Netstring → List ℕ → ℕ → Type 0
SaysLength c text n = (n ≤ c.max) × (n < 2 ^ 64) × (text ≡ decimal n)

-- It has a number above the limit, or none.
abbrev pub DeniesLength : Netstring → List ℕ → FrameError → Type 0
DeniesLength c text e =
    ((e ≡ Malformed) × ((n : ℕ) → n < 2 ^ 64 → text ≢ decimal n))
    ⊎ ((n : ℕ) × (e ≡ TooLong n) × (c.max < n) × (n < 2 ^ 64) × (text ≡ decimal n))

pub one_length : (c : Netstring) (text : List ℕ) (n m : ℕ) → SaysLength c text n → SaysLength c text m → n ≡ m
one_length c text n m (_, small, is) (_, short, same) = decimal_injective n m small short (sym is ∙ same)

pub sure_length : (c : Netstring) (text : List ℕ) (n : ℕ) (e : FrameError) → SaysLength c text n → DeniesLength c text e → ⊥
sure_length c text n e (_, small, is) (inl (_, none)) = none n small is
sure_length c text n e (within, small, is) (inr (m, _, above, short, same)) =
    omega (arith, decimal_injective n m small short (sym is ∙ same), within, above)

-- A number, a colon, so many bytes, and a comma.
abbrev pub netstring : HeadForm Netstring
netstring = record {
  delimiter = 58;
  longest = λ c. 20;
  says = SaysLength;
  denies = DeniesLength;
  tail = 44 ∷ [];
  one = one_length;
  sure = sure_length;
}

-- Why a string is not encoded into a buffer with room for `spare` more bytes.
abbrev pub RefusesNetstring : Netstring → List ℕ → ℕ → FrameError → Type 0
RefusesNetstring c string spare e = ((c.max < length string) × (e ≡ TooLong (length string)))
    ⊎ (SaysOutOfMemory e × (spare < length (decimal (length string)) + length string + 2))

-- A decoder with at least the limit of the encoder reads its heads.
pub same_longest : (c d : Netstring) → c.max ≤ d.max → 20 ≤ 20
same_longest c d within = omega arith

pub says_more : (c d : Netstring) (text : List ℕ) (n : ℕ) → c.max ≤ d.max → SaysLength c text n → SaysLength d text n
says_more c d text n within (fits, small, is) = (omega (arith, fits, within), small, is)
