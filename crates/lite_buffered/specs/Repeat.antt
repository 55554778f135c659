-- `repeat`: a reader of one byte, forever.
use Rattle.std.specs.Prelude.{◌≡◌, ℕ, [], ◌∷◌}
use Rattle.lite_buffered.specs.Uses.{ReadMark, Runs}
use Rattle.lite_buffered.specs.declared.repeat.Repeat.{Repeat}

-- The byte that is repeated.
abbrev pub byte_of : Repeat → ℕ
byte_of x = x.byte

-- The run of `repeat`: each mark is its byte, and it never changes.
abbrev pub RepeatsByte : Runs ReadMark Repeat
RepeatsByte x [] y = y ≡ x
RepeatsByte x (m ∷ ms) y = (m ≡ ReadMark.byte x.byte) × RepeatsByte x ms y
