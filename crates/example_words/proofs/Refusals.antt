-- Why a line is refused: the digits of its count, and its words.
use Rattle.std.proofs.Common.{◌≡◌, ◌≢◌, ℕ, ◌+◌, ◌^◌, ◌<◌, ◌≤◌, ◌↔◌, ◌∙◌, Bool, true, false, List, ◌∷◌, arith, length, refl, rules}
use Rattle.std.proofs.lemmas.Fmt.{IsAscii-decimal_wide, decimal_is_IsNumeral_wide}
use Rattle.std.proofs.lemmas.List.Elements.{All-from_recursion, recursion_from_All}
use Rattle.std.proofs.lemmas.Slice.Eq.{bytes_eq-Decides}
use Rattle.std.proofs.lemmas.Str.{IsUtf8-from_ascii}
use Rattle.std.proofs.lemmas.Str.Parse.{IsNumeralModel, numerals_by_value, parse_digits, tells_digits}
use Rattle.std.specs.Char.{is_ascii_digit}
use Rattle.std.specs.List.{All, AllByRecursion}
use Rattle.std.specs.Prelude.{IsUtf8, MatchBool, Ok, decimal, ⊤}
use Rattle.std.specs.Str.{bytes_eq}
use Rattle.std.specs.Str.Parse.{AllDigits, IsNumeral, ParsesUnsigned, digits_value}
use Rattle.example_words.specs.Laws.{counts_next}
use Rattle.example_words.specs.Records.{Counted, total_count}
use Rattle.example_words.specs.Refusals.{RefusedWord, RefusedWords}
use Rattle.example_words.specs.Words.{occurrences, words}
use Rattle.example_words.specs.declared.fault.LineError.{LineError}
use Rattle.example_words.specs.declared.fault.LineError.TheVariants.{CutOff, Memory, NoCount, NoTab, NoWord, OutOfOrder, TooLarge}

digits_model : IsNumeralModel (AllDigits 10) (digits_value 10)
digits_model = numerals_by_value _ tells_digits

test_model : IsNumeralModel (AllByRecursion (λ b. is_ascii_digit b ≡ true)) (digits_value 10)
test_model = numerals_by_value _ (search rules)

pub numeral_test : (digits : List ℕ) (r : Bool) → 0 < length digits → (r ≡ true) ↔ All (λ b. is_ascii_digit b ≡ true) digits
    → MatchBool r (IsNumeral 10 digits) (IsNumeral 10 digits → ⊥)
numeral_test digits true some all = (some, test_model.to digits (recursion_from_All _ digits (all.0 refl)))
numeral_test digits false some all = λ h.
    let no : false ≡ true = all.1 (All-from_recursion _ digits (test_model.from digits h.1)) in search (rules, no)

module _ (digits : List ℕ) where
  -- Bytes that are not UTF-8 are no number.
  pub not_text : ¬ (IsUtf8 digits) → (n : ℕ) → 0 < n → n < 10 ^ 64 → digits ≢ decimal n
  not_text denied n some small e = denied (rw e (IsUtf8-from_ascii (decimal n) (IsAscii-decimal_wide n small)))

  -- Nor are bytes that are not all digits.
  pub not_digits : ¬ (IsNumeral 10 digits) → (n : ℕ) → 0 < n → n < 10 ^ 64 → digits ≢ decimal n
  not_digits denied n some small e = denied (rw e (decimal_is_IsNumeral_wide n small).0)

  -- What `parse` read of the digits of a number is the number.
  pub read_back : (count n : ℕ) → n < 10 ^ 64 → digits ≡ decimal n → ParsesUnsigned {E = ⊤} 64 10 digits (Ok count) → count ≡ n
  read_back count n small e read =
      let numeral = decimal_is_IsNumeral_wide n small in
      let all : AllDigits 10 digits = rw e numeral.0.1 in
      let value = parse_digits digits_model {E = ⊤} 64 digits (Ok count) read all in
      let same : digits_value 10 digits ≡ n = rw e numeral.1 in
      value.1 ∙ same

once : (rest word behind : List ℕ) → words rest ≡ word ∷ words behind → occurrences rest word ≡ 1 + occurrences behind word
once rest word behind next =
    let more = counts_next rest word behind word next in
    let same : bytes_eq word word ≡ true = (bytes_eq-Decides word word).1 refl in rw same at more

-- If a word is refused after the words before it, its line is.
pub words_refused : (before now : List Counted) (line rest word behind : List ℕ)
    → ((w : List ℕ) → total_count now w + occurrences rest w ≡ total_count before w + occurrences line w)
    → ((w : List ℕ) → total_count before w ≤ total_count now w) → words rest ≡ word ∷ words behind
    → (e : LineError) → RefusedWord (total_count now word) e → RefusedWords (total_count before) line e
words_refused before now line rest word behind sums grows next TooLarge refused =
    (word, omega (arith, refused, sums word, once rest word behind next))
words_refused before now line rest word behind sums grows next Memory refused =
    (word, omega (arith, refused, grows word), omega (arith, refused, sums word, grows word, once rest word behind next))
words_refused before now line rest word behind sums grows next CutOff refused = absurd refused
words_refused before now line rest word behind sums grows next NoTab refused = absurd refused
words_refused before now line rest word behind sums grows next NoWord refused = absurd refused
words_refused before now line rest word behind sums grows next NoCount refused = absurd refused
words_refused before now line rest word behind sums grows next OutOfOrder refused = absurd refused

-- Words are refused by how often each was counted before.
pub refused_by : (f g : List ℕ → ℕ) (line : List ℕ) → ((w : List ℕ) → f w ≡ g w) → (e : LineError) → RefusedWords f line e → RefusedWords g line e
refused_by f g line same TooLarge refused = (refused.0, omega (arith, refused.1, same refused.0))
refused_by f g line same Memory refused = (refused.0, omega (arith, refused.1, same refused.0), refused.2)
refused_by f g line same CutOff refused = absurd refused
refused_by f g line same NoTab refused = absurd refused
refused_by f g line same NoWord refused = absurd refused
refused_by f g line same NoCount refused = absurd refused
refused_by f g line same OutOfOrder refused = absurd refused
