-- The first line of some bytes. `position is_newline bytes` is the index of its newline, or `None`. `before_first
-- is_newline bytes` is the line: the bytes before that newline, or all if there is none.
use Rattle.std.specs.Prelude.{ℕ, Bool, true, List, length, take, ◌==◌, ◌≡◌, ◌≤◌, if◌then◌else◌}
use Rattle.lite_read.specs.Uses.{is_ascii, list_all, position_or_len}
use Rattle.std.specs.Int.{trailing_zeros, w64}

-- The byte is a newline, 0x0A.
abbrev pub is_newline : ℕ → Bool
is_newline b = b == 10

-- The index of the lowest set bit of a 32-bit mask, or 32 if no bit is set.
abbrev pub first_set : ℕ → ℕ
first_set mask = if mask == 0 then 32 else trailing_zeros w64 mask

-- The first `n` bytes exist, none of them is a newline, and `ascii` says whether all of them are ASCII.
pub record LineGoesOn (n : ℕ) (ascii : Bool) (bytes : List ℕ) : Type 0 where
  pub within : n ≤ length bytes
  pub line : position_or_len is_newline (take n bytes) ≡ n
  pub known : ascii ≡ list_all is_ascii (take n bytes)

-- The first `n` bytes exist, none of them is a newline, and all of them are ASCII.
abbrev pub IsPlain : ℕ → List ℕ → Type 0
IsPlain n bytes = LineGoesOn n true bytes
