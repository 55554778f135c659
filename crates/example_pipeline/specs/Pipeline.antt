-- What the pipeline makes of lines: the even ones of their numbers, the sums of windows of three, and the text of
-- those.
use Rattle.std.specs.Prelude.{◌≡◌, ◌==◌, ◌<◌, ◌≤◌, ℕ, ◌+◌, ◌-◌, ◌^◌, ◌%◌, ◌&&◌, List, [], ◌∷◌, ◌++◌, Option, Some, None, decimal}
use Rattle.std.specs.Prelude.{IsUtf8, drop, if◌then◌else◌, is_none, flat_map, length, nat_lt, take}
use Rattle.std.specs.List.{filter, position}
use Rattle.std.specs.Str.{all_ascii_digits, bytes_eq}
use Rattle.std.specs.Str.Parse.{digits_value, without_leading_plus}
use Rattle.futures_lite.specs.Lines.{without_return}
use Rattle.futures_lite.specs.Lists.{map_while}
use Rattle.example_pipeline.specs.declared.fault.Cause.{Cause}
use Rattle.example_pipeline.specs.declared.fault.Cause.TheVariants.{Input, Memory, NotANumber, NotUtf8, Output, Overflow}
use Rattle.example_pipeline.specs.declared.sums.Sums.{Sums}

-- The number of these digits, if they are digits alone, at least one, and the number fits 64 bits.
abbrev pub digits_number : List ℕ → Option ℕ
digits_number ds = if all_ascii_digits ds && nat_lt 0 (length ds) && nat_lt (digits_value 10 ds) (2 ^ 64)
    then Some (digits_value 10 ds) else None

-- The number of a line, which may begin with a plus.
abbrev pub line_number : List ℕ → Option ℕ
line_number line = digits_number (without_leading_plus line)

-- How many lines come before the first that is no number.
abbrev pub first_bad : List (List ℕ) → Option ℕ
first_bad lines = position (λ line. is_none (line_number line)) lines

-- The even ones of the numbers before that.
abbrev pub even_numbers : List (List ℕ) → List ℕ
even_numbers lines = filter (λ x. x % 2 == 0) (map_while line_number lines)

-- The number as the one item of a list, if it is even.
abbrev pub if_even : ℕ → List ℕ
if_even x = filter (λ x. x % 2 == 0) (x ∷ [])

-- The sums of windows of three numbers, of which the last may be shorter.
abbrev pub window_sums : List ℕ → List ℕ
window_sums [] = []
window_sums (a ∷ []) = a ∷ []
window_sums (a ∷ b ∷ []) = (a + b) ∷ []
window_sums (a ∷ b ∷ c ∷ xs) = (a + b + c) ∷ window_sums xs

-- A sum as a line of text.
abbrev pub sum_line : ℕ → List ℕ
sum_line n = decimal n ++ 10 ∷ []

-- What is written for these lines.
abbrev pub sums_text : List (List ℕ) → List ℕ
sums_text lines = flat_map sum_line (window_sums (even_numbers lines))

-- The sums of the windows that are full.
abbrev pub full_sums : List ℕ → List ℕ
full_sums [] = []
full_sums (a ∷ []) = []
full_sums (a ∷ b ∷ []) = []
full_sums (a ∷ b ∷ c ∷ xs) = (a + b + c) ∷ full_sums xs

-- How many numbers are in the last window, which is not full.
abbrev pub part_count : List ℕ → ℕ
part_count [] = 0
part_count (a ∷ []) = 1
part_count (a ∷ b ∷ []) = 2
part_count (a ∷ b ∷ c ∷ xs) = part_count xs

-- The sum of the numbers in the last window, which is not full.
abbrev pub part_sum : List ℕ → ℕ
part_sum [] = 0
part_sum (a ∷ []) = a
part_sum (a ∷ b ∷ []) = a + b
part_sum (a ∷ b ∷ c ∷ xs) = part_sum xs

-- The sum of the last window, which is not full, fits 64 bits. With this number it passes them.
abbrev pub SumPasses : List ℕ → ℕ → Type 0
SumPasses l x = (part_sum l < 2 ^ 64) × (2 ^ 64 ≤ part_sum l + x)

-- The sum of the last window, if it has a number and is not full.
abbrev pub last_sums : List ℕ → List ℕ
last_sums [] = []
last_sums (a ∷ []) = a ∷ []
last_sums (a ∷ b ∷ []) = (a + b) ∷ []
last_sums (a ∷ b ∷ c ∷ xs) = last_sums xs

-- The text of some sums.
abbrev pub text_of_sums : List ℕ → List ℕ
text_of_sums = flat_map sum_line

-- What is written for these lines while the last window is open.
abbrev pub full_text : List (List ℕ) → List ℕ
full_text lines = text_of_sums (full_sums (even_numbers lines))

-- The window has the count and the sum of the last of these numbers, whose window is not full.
abbrev pub HoldsWindow : Sums → List ℕ → Type 0
HoldsWindow s l = (s.count ≡ part_count l) × (s.part ≡ part_sum l)

-- A line of a text without its end: a newline, and a carriage return before it.
abbrev pub line_text : List ℕ → List ℕ
line_text line = if bytes_eq (drop (length line - 1) line) (10 ∷ []) then without_return (take (length line - 1) line) else line

-- Why the line is no number.
abbrev pub IsBadLine : List ℕ → Cause → Type 0
IsBadLine line NotUtf8 = ¬ (IsUtf8 line)
IsBadLine line NotANumber = IsUtf8 line
IsBadLine line Overflow = ⊥
IsBadLine line Memory = ⊥
IsBadLine line (Input e) = ⊥
IsBadLine line (Output e) = ⊥
