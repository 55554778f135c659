-- Numbers in hexadecimal digits.
use Rattle.std.specs.Prelude.{◌≡◌, ◌≤◌, ◌<◌, ◌+◌, ◌^◌, ◌/◌, ◌%◌, ◌==◌, if◌then◌else◌, Bool, true, false, ℕ, zero, suc, List, [], ◌∷◌, length, Option, Some, None}
use Rattle.std.specs.Fmt.{digit_glyph, digits, digits_onto}
use Rattle.std.specs.Char.{digit_value}
use Rattle.std.specs.List.{All}
use Rattle.std.specs.Str.{IsUtf8}
use Rattle.std.specs.Str.Parse.{AllDigits, IsNumeral, digits_value}
use Rattle.std.proofs.Common.{ap, arith}
use Rattle.std.proofs.Math.Nat.{pow-suc}
use Rattle.std.proofs.lemmas.Bool.Decides.{nat_tests}
use Rattle.std.proofs.lemmas.Fmt.{digits_is_IsNumeral}
use Rattle.std.proofs.lemmas.List.Elements.{All-cons, All-nil}
use Rattle.std.proofs.lemmas.Str.{IsUtf8-from_ascii}
use Rattle.std.proofs.lemmas.Str.Ascii.{IsAscii-from_all}
use Rattle.framed.specs.Heads.{HasNo, digits_have_none}

-- The number that a text is, in hexadecimal digits of either case.
abbrev pub ReadsHexadecimal : List ℕ → Option ℕ → Type 0
ReadsHexadecimal text (Some n) = (n < 2 ^ 64) × IsNumeral 16 text × (n ≡ digits_value 16 text)
ReadsHexadecimal text None = IsNumeral 16 text → 2 ^ 64 ≤ digits_value 16 text

-- The hexadecimal digits of a number, in lower case and without a zero before them.
abbrev pub hexadecimal : ℕ → List ℕ
hexadecimal n = digits 16 false n

-- They say the number.
pub hexadecimal_says : (n : ℕ) → n < 2 ^ 64 → IsNumeral 16 (hexadecimal n) × (digits_value 16 (hexadecimal n) ≡ n)
hexadecimal_says n small = digits_is_IsNumeral 16 false (omega arith) (omega arith) n (omega (arith, small))

-- They have no other byte than digits.
pub hexadecimal_has_none : (other n : ℕ) → 16 ≤ digit_value other → n < 2 ^ 64 → HasNo other (hexadecimal n)
hexadecimal_has_none other n no_digit small = digits_have_none 16 other (hexadecimal n) no_digit (hexadecimal_says n small).0.1

-- The last digit of a number, and those before it.
module _ (k n : ℕ) (behind : List ℕ) where
  -- What is written in front of `behind`, by whether the number has one digit.
  abbrev by_last : Bool → List ℕ
  by_last t = if t then digit_glyph false (n % 16) ∷ behind else digits_onto k 16 false (n / 16) (digit_glyph false (n % 16) ∷ behind)

  pub more_digits : 16 ≤ n → digits_onto (suc k) 16 false n behind ≡ digits_onto k 16 false (n / 16) (digit_glyph false (n % 16) ∷ behind)
  more_digits more = let no : (n / 16 == 0) ≡ false = grind (arith, nat_tests) in ap by_last no

  pub last_digit : n < 16 → digits_onto (suc k) 16 false n behind ≡ digit_glyph false (n % 16) ∷ behind
  last_digit one = let is : (n / 16 == 0) ≡ true = grind (arith, nat_tests) in ap by_last is

  -- One digit less is left of what is left.
  pub fewer_left : (j : ℕ) → n < 16 ^ suc j → n / 16 < 16 ^ j
  fewer_left j small = omega (arith, small, pow-suc 16 j)

-- There are 16 at most.
onto_length : (k j n : ℕ) (behind : List ℕ) → n < 16 ^ suc j → length (digits_onto k 16 false n behind) ≤ suc j + length behind
onto_length zero j n behind small = omega arith
onto_length (suc k) zero n behind small = omega (arith, ap length (last_digit k n behind (omega (arith, small))))
onto_length (suc k) (suc j) n behind small =
    by_test (n / 16 == 0) (onto_length k j (n / 16) (digit_glyph false (n % 16) ∷ behind) (fewer_left k n behind (suc j) small))
  where
    by_test : (t : Bool) → length (digits_onto k 16 false (n / 16) (digit_glyph false (n % 16) ∷ behind)) ≤ suc j + suc (length behind)
        → length (by_last k n behind t) ≤ suc (suc j) + length behind
    by_test true others = omega arith
    by_test false others = omega (arith, others)

pub few_hexadecimal : (n : ℕ) → n < 2 ^ 64 → length (hexadecimal n) ≤ 16
unfolding digits
few_hexadecimal n small = onto_length 64 15 n [] (omega (arith, small))

-- A numeral is a text.
ascii_digit : (c : ℕ) → digit_value c < 16 → c < 128
ascii_digit c small = grind (arith, nat_tests)

ascii_digits : (text : List ℕ) → AllDigits 16 text → All (λ b. b < 128) text
ascii_digits [] all = All-nil (λ b. b < 128)
ascii_digits (c ∷ cs) all = All-cons (λ b. b < 128) c cs (ascii_digit c all.0) (ascii_digits cs all.1)

pub no_hexadecimal_text : (text : List ℕ) → ¬ (IsUtf8 text) → ReadsHexadecimal text None
no_hexadecimal_text text other numeral = absurd (other (IsUtf8-from_ascii text (IsAscii-from_all text (ascii_digits text numeral.1))))
