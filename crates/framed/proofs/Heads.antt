-- Delimiters and bodies at the front of some bytes.
use Rattle.std.specs.Prelude.{◌≡◌, ◌≢◌, ◌≤◌, ◌<◌, ◌+◌, ◌-◌, ◌^◌, Bool, true, false, not, ℕ, zero, suc, List, ◌∷◌, ◌++◌}
use Rattle.std.specs.Prelude.{IsErr, IsErrAnd, Option, Some, None, Result, Ok, Err, decimal, drop, length, slice_index, slice_range, take}
use Rattle.std.specs.Result.{result_ok}
use Rattle.std.specs.Str.{IsUtf8, bytes_eq}
use Rattle.std.specs.Str.Parse.{AllDigits, IsNumeral, ParsesUnsigned, digits_value}
use Rattle.std.proofs.Common.{◌∙◌, ap, arith, inl, inr, length-drop, length-append, length-take-le, refl, subst, sym, take-add, take-append-drop}
use Rattle.std.proofs.lemmas.Fmt.{IsAscii-decimal, decimal-digits_value, decimal_digit, first_decimal, parse-decimal}
use Rattle.std.proofs.Math.Seq.{take-append-add}
use Rattle.std.proofs.lemmas.List.{drop-drop, drop_at, drop_more, get_or-append-add, get_or-take, take-take}
use Rattle.std.proofs.lemmas.List.Elements.{All-append, All-take}
use Rattle.std.proofs.lemmas.Slice.Eq.{bytes_eq-Decides}
use Rattle.std.proofs.lemmas.Str.{IsUtf8-from_ascii}
use Rattle.std.proofs.lemmas.Str.Parse.{numerals_by_value, tells_digits, without_leading_plus_none}
use Rattle.bytes.specs.Filled.{Filled}
use Rattle.framed.specs.FrameErrors.{SaysOutOfMemory}
use Rattle.framed.specs.Heads.{FindsDelimiter, FirstAt, HasNo, ReadsDecimal, TakesBody}
use Rattle.framed.specs.declared.frame_error.FrameError.{FrameError}
use Rattle.framed.specs.declared.frame_error.FrameError.TheVariants.{Malformed}
use Rattle.framed.specs.declared.delimiter.Delimiter.TheVariants.{At}

-- A delimiter that was found in a front.
pub found_within : (byte max n at : ℕ) (xs : List ℕ) → FirstAt byte (take n xs) (Some at) → n ≤ max + 1 → n ≤ length xs
    → FindsDelimiter byte max xs (At at)
found_within byte max n at xs (inside, here, lacks) low within =
    let before : at < n = omega (arith, inside, length-take-le n xs within) in
    let byte_is : slice_index xs at ≡ byte = sym (get_or-take n xs at 0 before) ∙ here in (
      omega (arith, before, low),
      take at xs,
      drop (at + 1) xs,
      length-take-le at xs (omega (arith, before, within)),
      rw (take-take at n xs (omega (arith, before))) at lacks,
      sym (take-append-drop at xs)
          ∙ ap (λ l. take at xs ++ l) (drop_more xs at 0 (omega (arith, before, within)) ∙ ap (λ b. b ∷ drop (at + 1) xs) byte_is),
    )

-- What stands behind `start` bytes.
module _ (start n : ℕ) (tail xs : List ℕ) (there : start + n + length tail ≤ length xs) where
  abbrev body : List ℕ
  body = take n (drop start xs)

  abbrev other : List ℕ
  other = take (length tail) (drop (start + n) xs)

  abbrev behind : List ℕ
  behind = drop (start + n + length tail) xs

  front_length : length (take start xs) ≡ start
  front_length = length-take-le start xs (omega (arith, there))

  body_length : length body ≡ n
  body_length = length-take-le n (drop start xs) (omega (arith, there, length-drop start xs))

  other_length : length other ≡ length tail
  other_length = length-take-le (length tail) (drop (start + n) xs) (omega (arith, there, length-drop (start + n) xs))

  parts : xs ≡ take start xs ++ (body ++ (other ++ behind))
  parts =
      sym (take-append-drop start xs)
      ∙ ap (λ l. take start xs ++ l) (sym (take-append-drop n (drop start xs))
      ∙ ap (λ l. body ++ l) (drop-drop n start xs ∙ sym (take-append-drop (length tail) (drop (start + n) xs))
      ∙ ap (λ l. other ++ l) (drop-drop (length tail) (start + n) xs)))

  -- What a comparison of the bytes in the tail's place tells.
  module _ (size end : ℕ) (end_is : end ≡ start + n) (size_is : size ≡ end + length tail) (differ : Bool)
      (told : differ ≡ not (bytes_eq (take (size - end) (drop end xs)) tail)) where
    compared : differ ≡ not (bytes_eq other tail)
    compared =
        told ∙ ap (λ m. not (bytes_eq (take (size - end) (drop m xs)) tail)) end_is
        ∙ ap (λ m. not (bytes_eq (take m (drop (start + n) xs)) tail)) (omega (arith, size_is))

    differs : differ ≡ true → other ≢ tail
    differs it_is e =
        let equal = (bytes_eq-Decides other tail).1 e in
        let no_difference : differ ≡ false = compared ∙ ap not equal in
        let absurdity : true ≡ false = sym it_is ∙ no_difference in
        cc absurdity

    is_tail : differ ≡ false → other ≡ tail
    is_tail none = (bytes_eq-Decides other tail).0 (from_not (bytes_eq other tail) (sym compared ∙ none))
      where
        from_not : (b : Bool) → not b ≡ false → b ≡ true
        from_not true e = refl
        from_not false e = cc e

    pub other_there : differ ≡ true → TakesBody start n tail xs (Err Malformed) xs
    other_there it_is = (refl, take start xs, body, other, behind, front_length, body_length, other_length, parts, inl (differs it_is, refl))

    pub body_refused : differ ≡ false → (r : Result (Option Filled) FrameError) → IsErr r → IsErrAnd r SaysOutOfMemory → (ys : List ℕ) → ys ≡ xs
        → TakesBody start n tail xs r ys
    body_refused none (Ok v) is lacks ys same = cc is
    body_refused none (Err e) is lacks ys same =
        (same, take start xs, body, other, behind, front_length, body_length, other_length, parts, inr (is_tail none, lacks))

    pub body_there : differ ≡ false → (v : List ℕ) → v ≡ drop start (take end (take size xs)) → (ys : List ℕ) → ys ≡ drop size xs
        → (length v ≡ n) × (front : List ℕ) × (length front ≡ start) × (xs ≡ front ++ (v ++ (tail ++ ys)))
    body_there none v v_is ys ys_is =
        let body_is : v ≡ body = v_is ∙ ap (drop start) (take-take end size xs (omega (arith, size_is)) ∙ ap (λ m. take m xs) end_is ∙ take-add start n xs)
        ∙ drop_at (take start xs) body start front_length in (
          ap length body_is ∙ body_length,
          take start xs,
          front_length,
          parts ∙ ap (λ l. take start xs ++ (l ++ (other ++ behind))) (sym body_is)
              ∙ ap (λ l. take start xs ++ (v ++ (l ++ behind))) (is_tail none)
              ∙ ap (λ l. take start xs ++ (v ++ (tail ++ l))) (ap (λ m. drop m xs) (omega (arith, end_is, size_is)) ∙ sym ys_is),
        )

-- The digits of a number do not begin with a plus, and with a zero only if there is no other digit.
first_digit : (n : ℕ) → n < 2 ^ 64 → 48 ≤ slice_index (decimal n) 0
first_digit zero small = rw (decimal_digit 0 (omega arith)) (omega arith)
first_digit (suc n) small = omega (arith, first_decimal (suc n) (omega arith) small)

zero_alone : (n : ℕ) → n < 2 ^ 64 → slice_index (decimal n) 0 ≡ 48 → length (decimal n) ≡ 1
zero_alone zero small is = ap length (decimal_digit 0 (omega arith))
zero_alone (suc n) small is = omega (arith, first_decimal (suc n) (omega arith) small, is)

module _ (text : List ℕ) where
  pub no_plus : slice_index text 0 ≡ 43 → ReadsDecimal text None
  no_plus plus n small is = omega (arith, first_digit n small, ap (λ l. slice_index l 0) is, plus)

  pub no_zero_before : slice_index text 0 ≡ 48 → 1 < length text → ReadsDecimal text None
  no_zero_before is_zero longer n small is =
      omega (arith, zero_alone n small (ap (λ l. slice_index l 0) (sym is) ∙ is_zero), ap length is, longer)

  pub no_text : ¬ (IsUtf8 text) → ReadsDecimal text None
  no_text other n small is = other (rw is (IsUtf8-from_ascii (decimal n) (IsAscii-decimal n small)))

  -- A text without such a byte before its digits is read as std reads it.
  pub parsed : {E : Type 0} (r : Result ℕ E) → slice_index text 0 ≢ 43 → (slice_index text 0 ≡ 48 → length text ≡ 1)
      → ParsesUnsigned 64 10 text r → ReadsDecimal text (result_ok r)
  parsed (Ok n) plain alone (numeral, is) =
      let same = without_leading_plus_none text plain in
      let digits : IsNumeral 10 text = rw same at numeral.0 in
      let value : n ≡ digits_value 10 text = is ∙ ap (digits_value 10) same in
      let small : digits_value 10 text < 2 ^ 64 = rw same at numeral.1 in (
        omega (arith, value, small),
        sym (decimal-digits_value (numerals_by_value (AllDigits 10) tells_digits) text digits.1 digits.0 alone small) ∙ ap decimal (sym value),
      )
  parsed (Err e) plain alone none = λ n small is. cc (parse-decimal 64 n text (Err e) small small is none)

-- A search goes on behind the first `seen` bytes, which have no such byte.
module _ (byte seen from n : ℕ) (xs : List ℕ) (lacks : HasNo byte (take seen xs)) (low : from ≤ seen) (before : from ≤ n)
    (within : n ≤ length xs) where
  searched_is : take n xs ≡ take from xs ++ slice_range xs from n
  searched_is = ap (λ k. take k xs) (omega (arith, before)) ∙ take-add from (n - from) xs

  front_lacks : HasNo byte (take from xs)
  front_lacks = rw (take-take from seen xs low) at (All-take (λ b. b ≢ byte) from (take seen xs) lacks)

  front_long : length (take from xs) ≡ from
  front_long = length-take-le from xs (omega (arith, before, within))

  pub none_behind : FirstAt byte (slice_range xs from n) None → FirstAt byte (take n xs) None
  none_behind none = rw searched_is (All-append (λ b. b ≢ byte) (take from xs) (slice_range xs from n) front_lacks none)

  pub first_behind : (at : ℕ) → FirstAt byte (slice_range xs from n) (Some at) → FirstAt byte (take n xs) (Some (from + at))
  first_behind at (inside, here, none) =
      rw searched_is (
        omega (arith, inside, front_long, length-append (take from xs) (slice_range xs from n)),
        ap (λ k. slice_index (take from xs ++ slice_range xs from n) (k + at)) (sym front_long)
            ∙ get_or-append-add (take from xs) (slice_range xs from n) at 0 ∙ here,
        subst (λ l. HasNo byte l) (sym (ap (λ k. take (k + at) (take from xs ++ slice_range xs from n)) (sym front_long)
            ∙ take-append-add (take from xs) (slice_range xs from n) at))
            (All-append (λ b. b ≢ byte) (take from xs) (take at (slice_range xs from n)) front_lacks none),
      )
