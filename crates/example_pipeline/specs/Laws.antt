-- Laws of the pipeline: of numbers and their digits, of windows and one more number, and of the ends of lines.
use Rattle.std.proofs.Common.{◌≡◌, ◌==◌, ℕ, zero, suc, ◌+◌, ◌^◌, ◌<◌, ◌≤◌, ◌&&◌, Bool, true, false}
use Rattle.std.proofs.Common.{List, [], ◌∷◌, ◌++◌, Option, Some, None, ap, arith, drop, if◌then◌else◌, length, lt-ltb, ltb-true}
use Rattle.std.proofs.Common.{eqb-true, refl}
use Rattle.std.proofs.lemmas.Fmt.{IsAscii-from_digits}
use Rattle.std.proofs.lemmas.Str.{IsUtf8-from_ascii}
use Rattle.std.proofs.lemmas.Str.Parse.{IsNumeralModel, numerals_by_value, tells_all_ascii_digits}
use Rattle.std.specs.Prelude.{IsAscii, IsUtf8}
use Rattle.std.specs.Str.{all_ascii_digits}
use Rattle.std.specs.Str.Parse.{AllDigits, IsNumeral, digits_value, without_leading_plus}
use Rattle.example_pipeline.specs.Pipeline.{digits_number, full_sums, last_sums, line_number, part_count, part_sum}

digits_model : IsNumeralModel (λ ds. all_ascii_digits ds ≡ true) (digits_value 10)
digits_model = numerals_by_value _ tells_all_ascii_digits

pub digits_number_some : (ds : List ℕ) → IsNumeral 10 ds → digits_value 10 ds < 2 ^ 64
    → digits_number ds ≡ Some (digits_value 10 ds)
digits_number_some ds some small =
    rw (digits_model.from ds some.1, lt-ltb 0 (length ds) some.0, lt-ltb (digits_value 10 ds) (2 ^ 64) small) refl

none_chosen : {A : Type 0} (x : Option A) (a b c : Bool) → (a ≡ true → b ≡ true → c ≡ true → ⊥)
    → (if a && b && c then x else None) ≡ None
none_chosen x true true true denied = absurd (denied refl refl refl)
none_chosen x true true false denied = refl
none_chosen x true false c denied = refl
none_chosen x false b c denied = refl

pub digits_number_none : (ds : List ℕ) → ¬ (IsNumeral 10 ds × (digits_value 10 ds < 2 ^ 64)) → digits_number ds ≡ None
digits_number_none ds denied = none_chosen (Some (digits_value 10 ds)) _ _ _
    (λ all some small. denied ((ltb-true _ _ some, digits_model.to ds all), ltb-true _ _ small))

plus_ascii : (line : List ℕ) → AllDigits 10 (without_leading_plus line) → IsAscii line
plus_ascii [] digits = λ i. omega arith
plus_ascii (b ∷ line) digits = at (b == 43) refl digits
  where
    behind : AllDigits 10 line → b ≡ 43 → IsAscii (b ∷ line)
    behind h e zero = omega (arith, e)
    behind h e (suc i) = IsAscii-from_digits line h i

    at : (c : Bool) → (b == 43) ≡ c → AllDigits 10 (drop (if c then 1 else 0) (b ∷ line)) → IsAscii (b ∷ line)
    at true e h = behind h (eqb-true b 43 e)
    at false e h = IsAscii-from_digits (b ∷ line) h

-- A line that is not UTF-8 is no number.
pub number_utf8 : (line : List ℕ) → ¬ (IsUtf8 line) → line_number line ≡ None
number_utf8 line denied = none_chosen (Some (digits_value 10 (without_leading_plus line))) _ _ _
    (λ all some small. denied (IsUtf8-from_ascii line (plus_ascii line (digits_model.to (without_leading_plus line) all))))

module _ (x : ℕ) where
  pub full_on : (l : List ℕ) → part_count l < 2 → full_sums (l ++ x ∷ []) ≡ full_sums l ++ []
  full_on [] h = refl
  full_on (a ∷ []) h = refl
  full_on (a ∷ b ∷ []) h = absurd (omega arith)
  full_on (a ∷ b ∷ c ∷ l) h = ap (λ k. (a + b + c) ∷ k) (full_on l h)

  pub count_on : (l : List ℕ) → part_count l < 2 → part_count (l ++ x ∷ []) ≡ part_count l + 1
  count_on [] h = refl
  count_on (a ∷ []) h = refl
  count_on (a ∷ b ∷ []) h = absurd (omega arith)
  count_on (a ∷ b ∷ c ∷ l) h = count_on l h

  pub sum_on : (l : List ℕ) → part_count l < 2 → part_sum (l ++ x ∷ []) ≡ part_sum l + x
  sum_on [] h = omega arith
  sum_on (a ∷ []) h = refl
  sum_on (a ∷ b ∷ []) h = absurd (omega arith)
  sum_on (a ∷ b ∷ c ∷ l) h = sum_on l h

  pub full_full : (l : List ℕ) → 2 ≤ part_count l → full_sums (l ++ x ∷ []) ≡ full_sums l ++ (part_sum l + x) ∷ []
  full_full [] h = absurd (omega arith)
  full_full (a ∷ []) h = absurd (omega arith)
  full_full (a ∷ b ∷ []) h = refl
  full_full (a ∷ b ∷ c ∷ l) h = ap (λ k. (a + b + c) ∷ k) (full_full l h)

  pub count_full : (l : List ℕ) → 2 ≤ part_count l → part_count (l ++ x ∷ []) ≡ 0
  count_full [] h = absurd (omega arith)
  count_full (a ∷ []) h = absurd (omega arith)
  count_full (a ∷ b ∷ []) h = refl
  count_full (a ∷ b ∷ c ∷ l) h = count_full l h

  pub sum_full : (l : List ℕ) → 2 ≤ part_count l → part_sum (l ++ x ∷ []) ≡ 0
  sum_full [] h = absurd (omega arith)
  sum_full (a ∷ []) h = absurd (omega arith)
  sum_full (a ∷ b ∷ []) h = refl
  sum_full (a ∷ b ∷ c ∷ l) h = sum_full l h

pub last_part : (l : List ℕ) → 0 < part_count l → last_sums l ≡ part_sum l ∷ []
last_part [] h = absurd (omega arith)
last_part (a ∷ []) h = refl
last_part (a ∷ b ∷ []) h = refl
last_part (a ∷ b ∷ c ∷ l) h = last_part l h

pub last_none : (l : List ℕ) → part_count l ≡ 0 → last_sums l ≡ []
last_none [] h = refl
last_none (a ∷ []) h = absurd (omega arith)
last_none (a ∷ b ∷ []) h = absurd (omega arith)
last_none (a ∷ b ∷ c ∷ l) h = last_none l h

-- A number is added to the last window.
pub ruleset window_steps = (full_on, count_on, sum_on, full_full, count_full, sum_full)

-- No number follows.
pub ruleset window_ends = (last_part, last_none)
