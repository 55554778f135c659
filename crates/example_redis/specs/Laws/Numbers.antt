-- A number at the front of some bytes is the only one.
use Rattle.std.specs.Prelude.{◌≡◌, ◌≢◌, ◌⊎◌, ◌≤◌, ◌<◌, ◌+◌, ◌*◌, ◌/◌, ◌%◌, ◌^◌, ℕ, zero, suc, List, [], ◌∷◌, ◌++◌, decimal, drop, length, take, ⊤}
use Rattle.std.specs.Int.{IsInRange}
use Rattle.std.specs.Str.Parse.{AllDigits}
use Rattle.std.proofs.Common.{◌∙◌, ap, append_assoc, arith, get_or, inl, inr, length-append, refl, subst, sym}
use Rattle.std.proofs.lemmas.Fmt.{decimal_digit, decimal_injective, decimal_is_IsNumeral, decimal_nonempty, decimal_step, first_decimal, length-decimal-le}
use Rattle.std.proofs.lemmas.List.{drop_all, drop_more, length-take, take-append-drop, take_all, take_more}
use Rattle.std.proofs.lemmas.Str.Parse.{digit_from_value}
use Rattle.example_redis.specs.Bytes.{number_line}
use Rattle.example_redis.specs.Reading.{HasNumber}

-- No digit is first.
abbrev pub BeginsOther : List ℕ → Type 0
BeginsOther [] = ⊤
BeginsOther (b ∷ xs) = IsInRange 48 57 b → ⊥

-- Digits at the beginning of one list, up to where they end, are the same.
pub digits_split : (ds es p q : List ℕ) → AllDigits 10 ds → AllDigits 10 es → BeginsOther p → BeginsOther q → ds ++ p ≡ es ++ q
    → (ds ≡ es) × (p ≡ q)
digits_split [] [] p q a b h k e = (refl, e)
digits_split [] (c ∷ es) [] q a b h k e = absurd (cc e)
digits_split [] (c ∷ es) (x ∷ p) q a b h k e =
    let first : c ≡ x = cc e in
    absurd (h (subst (λ y. IsInRange 48 57 y) first (digit_from_value c b.0)))
digits_split (c ∷ ds) [] p [] a b h k e = absurd (cc e)
digits_split (c ∷ ds) [] p (x ∷ q) a b h k e =
    let first : c ≡ x = cc e in
    absurd (k (subst (λ y. IsInRange 48 57 y) first (digit_from_value c a.0)))
digits_split (c ∷ ds) (d ∷ es) p q a b h k e =
    let first : c ≡ d = cc e in
    let others : ds ++ p ≡ es ++ q = cc e in
    let rest = digits_split ds es p q a.1 b.1 h k others in
    (rw (first, rest.0) refl, rest.1)

pub decimal_digits : (n : ℕ) → n < 2 ^ 64 → AllDigits 10 (decimal n)
decimal_digits n small = (decimal_is_IsNumeral n small).0.1

no_digit : (b : ℕ) → b < 48 → IsInRange 48 57 b → ⊥
no_digit b low r = omega (arith, low, r.0)

-- Digits that go on like a number are its digits.
pub digits_number : (n : ℕ) (ds p rest : List ℕ) → n < 2 ^ 64 → AllDigits 10 ds → BeginsOther p → ds ++ p ≡ number_line n ++ rest
    → (ds ≡ decimal n) × (p ≡ 13 ∷ 10 ∷ rest)
digits_number n ds p rest small all other e =
    digits_split ds (decimal n) p (13 ∷ 10 ∷ rest) all (decimal_digits n small) other (no_digit 13 (omega arith))
    (e ∙ append_assoc (decimal n) (13 ∷ 10 ∷ []) rest)

pub one_number : (n m : ℕ) (p q : List ℕ) → n < 2 ^ 64 → m < 2 ^ 64 → number_line n ++ p ≡ number_line m ++ q → (n ≡ m) × (p ≡ q)
one_number n m p q small short e =
    let parts = digits_number m (decimal n) (13 ∷ 10 ∷ p) q short (decimal_digits n small) (no_digit 13 (omega arith))
    (sym (append_assoc (decimal n) (13 ∷ 10 ∷ []) p) ∙ e) in
    (decimal_injective n m small short parts.0, cc parts.1)

-- One digit more.
pub decimal_next : (n d : ℕ) → 0 < n → n < 2 ^ 32 → d < 10 → decimal (n * 10 + d) ≡ decimal n ++ (48 + d) ∷ []
decimal_next n d some small digit =
    let front : (n * 10 + d) / 10 ≡ n = omega (arith, digit) in
    let last : (n * 10 + d) % 10 ≡ d = omega (arith, digit) in
    rw (front, last) at (decimal_step (n * 10 + d) (omega (arith, some)) (omega (arith, small, digit)))

pub digits_next : (bytes : List ℕ) (i n d : ℕ) → i < length bytes → get_or bytes i 0 ≡ 48 + d → d < 10 → n < 2 ^ 32
    → (i ≡ 0 → n ≡ 0) → (0 < i → take i bytes ≡ decimal n) → (0 < i → 0 < n) → take (i + 1) bytes ≡ decimal (n * 10 + d)
digits_next bytes zero n d within here digit small first before some =
    let value : n * 10 + d ≡ d = omega (arith, first refl) in
    take_more bytes 0 0 within ∙ ap (λ b. b ∷ []) here ∙ sym (decimal_digit d digit) ∙ ap decimal (sym value)
digits_next bytes (suc i) n d within here digit small first before some =
    take_more bytes (suc i) 0 within ∙ ap (λ b. take (suc i) bytes ++ b ∷ []) here ∙ ap (λ l. l ++ (48 + d) ∷ []) (before (omega arith))
    ∙ sym (decimal_next n d (some (omega arith)) small digit)

-- Bytes up to a place, and from there on.
cut : (bytes : List ℕ) (i : ℕ) → i < length bytes → take i bytes ++ get_or bytes i 0 ∷ drop (i + 1) bytes ≡ bytes
cut bytes i within = ap (λ l. take i bytes ++ l) (sym (drop_more bytes i 0 within)) ∙ take-append-drop i bytes

cut_more : (bytes more : List ℕ) (i : ℕ) → i < length bytes
    → take i bytes ++ get_or bytes i 0 ∷ (drop (i + 1) bytes ++ more) ≡ bytes ++ more
cut_more bytes more i within =
    sym (append_assoc (take i bytes) (get_or bytes i 0 ∷ drop (i + 1) bytes) more) ∙ ap (λ l. l ++ more) (cut bytes i within)

-- A byte that is no digit, and does not end a number.
pub other_byte : (bytes : List ℕ) (i n : ℕ) → i < length bytes → (IsInRange 48 57 (get_or bytes i 0) → ⊥) → n < 2 ^ 64
    → (0 < i → take i bytes ≡ decimal n) → (0 < i → get_or bytes i 0 ≢ 13) → (more : List ℕ) → HasNumber (bytes ++ more) → ⊥
other_byte bytes zero n within other small digits no_end more (m, rest, short, e) =
    let parts = digits_number m [] (get_or bytes 0 0 ∷ (drop 1 bytes ++ more)) rest short tt other (cut_more bytes more 0 within ∙ e) in
    omega (arith, decimal_nonempty m short, ap length parts.0)
other_byte bytes (suc i) n within other small digits no_end more (m, rest, short, e) =
    let all : AllDigits 10 (take (suc i) bytes) = rw (digits (omega arith)) (decimal_digits n small) in
    let parts = digits_number m (take (suc i) bytes) (get_or bytes (suc i) 0 ∷ (drop (suc i + 1) bytes ++ more)) rest short all other
    (cut_more bytes more (suc i) within ∙ e) in
    no_end (omega arith) (cc parts.1)

not_zero : (b : ℕ) (xs p q : List ℕ) → 48 < get_or xs 0 0 → 48 ∷ b ∷ p ≡ xs ++ q → ⊥
not_zero b [] p q big e = omega (arith, big)
not_zero b (x ∷ xs) p q big e = let same : 48 ≡ x = cc e in omega (arith, big, same)

pub zero_or_more : (n : ℕ) → n ≡ 0 ⊎ 0 < n
zero_or_more zero = inl refl
zero_or_more (suc n) = inr (omega arith)

-- A digit behind a zero.
pub leading_zero : (bytes : List ℕ) (i : ℕ) → i < length bytes → IsInRange 48 57 (get_or bytes i 0) → take i bytes ≡ decimal 0
    → (more : List ℕ) → HasNumber (bytes ++ more) → ⊥
leading_zero bytes i within digit is more (m, rest, short, e) =
    let b = get_or bytes i 0 in
    let p = drop (i + 1) bytes ++ more in
    let front : 48 ∷ b ∷ p ≡ decimal m ++ (13 ∷ 10 ∷ rest) =
    sym (ap (λ l. l ++ b ∷ p) (is ∙ decimal_digit 0 (omega arith))) ∙ cut_more bytes more i within ∙ e ∙ append_assoc (decimal m) (13 ∷ 10 ∷ []) rest in
    elim (zero_or_more m) [
      | inl none ↦
          let alone : 48 ∷ b ∷ p ≡ 48 ∷ 13 ∷ 10 ∷ rest =
          front ∙ ap (λ k. decimal k ++ (13 ∷ 10 ∷ rest)) none ∙ ap (λ l. l ++ (13 ∷ 10 ∷ rest)) (decimal_digit 0 (omega arith)) in
          let same : b ≡ 13 = cc alone in
          omega (arith, digit.0, same)
      | inr some ↦ not_zero b (decimal m) p (13 ∷ 10 ∷ rest) (first_decimal m some short) front
    ]

-- Digits alone go on with the end of their line.
pub goes_on : (bytes : List ℕ) (max n : ℕ) → n ≤ max → n < 2 ^ 32 → (0 < length bytes → take (length bytes) bytes ≡ decimal n)
    → (m : ℕ) × (more : List ℕ) × (m ≤ max) × (m < 2 ^ 32) × (0 < length more) × (bytes ++ more ≡ number_line m)
goes_on [] max n low small digits =
    (0, number_line 0, omega arith, omega arith, omega (arith, length-append (decimal 0) (13 ∷ 10 ∷ [])), refl)
goes_on (b ∷ bytes) max n low small digits =
    let same : b ∷ bytes ≡ decimal n = sym (take_all (length (b ∷ bytes)) (b ∷ bytes) (omega arith)) ∙ digits (omega arith) in
    (n, 13 ∷ 10 ∷ [], low, small, omega arith, ap (λ l. l ++ 13 ∷ 10 ∷ []) same)

-- The carriage return behind a number.
module _ (bytes : List ℕ) (i n : ℕ) (within : i < length bytes) (digits : take i bytes ≡ decimal n) (behind : get_or bytes i 0 ≡ 13) where
  pub number_here : decimal n ++ 13 ∷ drop (i + 1) bytes ≡ bytes
  number_here = sym (ap (λ l. l ++ 13 ∷ drop (i + 1) bytes) digits) ∙ ap (λ b. take i bytes ++ b ∷ drop (i + 1) bytes) (sym behind) ∙ cut bytes i within

  pub feed_follows : length bytes ≤ i + 1 → bytes ++ 10 ∷ [] ≡ number_line n
  feed_follows last =
      ap (λ l. l ++ 10 ∷ []) (sym number_here) ∙ append_assoc (decimal n) (13 ∷ drop (i + 1) bytes) (10 ∷ [])
      ∙ ap (λ l. decimal n ++ 13 ∷ (l ++ 10 ∷ [])) (drop_all (i + 1) bytes last)

  module _ (more_bytes : i + 1 < length bytes) where
    next_byte : drop (i + 1) bytes ≡ get_or bytes (i + 1) 0 ∷ drop (i + 1 + 1) bytes
    next_byte = drop_more bytes (i + 1) 0 more_bytes

    pub other_end : n < 2 ^ 64 → get_or bytes (i + 1) 0 ≢ 10 → (more : List ℕ) → HasNumber (bytes ++ more) → ⊥
    other_end small other more (m, rest, short, e) =
        let parts = digits_number m (decimal n) (13 ∷ (drop (i + 1) bytes ++ more)) rest short (decimal_digits n small) (no_digit 13 (omega arith))
        (sym (append_assoc (decimal n) (13 ∷ drop (i + 1) bytes) more) ∙ ap (λ l. l ++ more) number_here ∙ e) in
        let alone : 13 ∷ get_or bytes (i + 1) 0 ∷ (drop (i + 1 + 1) bytes ++ more) ≡ 13 ∷ 10 ∷ rest =
        ap (λ l. 13 ∷ (l ++ more)) (sym next_byte) ∙ parts.1 in
        other (cc alone)

    pub whole_line : get_or bytes (i + 1) 0 ≡ 10 → bytes ≡ number_line n ++ drop (i + 1 + 1) bytes
    whole_line feed =
        sym number_here ∙ ap (λ l. decimal n ++ 13 ∷ l) (next_byte ∙ ap (λ b. b ∷ drop (i + 1 + 1) bytes) feed)
        ∙ sym (append_assoc (decimal n) (13 ∷ 10 ∷ []) (drop (i + 1 + 1) bytes))

  pub line_length : i + 2 ≡ length (number_line n)
  line_length = omega (arith, ap length digits, length-take i bytes, length-append (decimal n) (13 ∷ 10 ∷ []))

pub length_line : (n : ℕ) → n < 2 ^ 32 → length (number_line n) ≤ 12
length_line n small =
    omega (arith, length-append (decimal n) (13 ∷ 10 ∷ []), length-decimal-le 10 n (omega arith) (omega (arith, small)) (omega (arith, small)))

-- A line that is not whole is shorter.
pub line_short : (xs more : List ℕ) (n : ℕ) → n < 2 ^ 32 → 0 < length more → xs ++ more ≡ number_line n → length xs < 12
line_short xs more n small some is = omega (arith, length_line n small, some, ap length is, length-append xs more)
