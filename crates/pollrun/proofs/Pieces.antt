-- The pieces of a word that spells a script are its answers, each spelled.
use Rattle.std.proofs.Common.{◌≡◌, ◌≤◌, ◌<◌, ◌^◌, ◌==◌, ℕ, zero, suc, ℤ, pos, negsuc, Bool, true, false, List, [], ◌∷◌}
use Rattle.std.proofs.Common.{length, map, decimal, get_or, refl, ap, subst, ◌∙◌, arith, Some, None}
use borrow.Author.Tests.{eqb-true}
use Rattle.std.specs.Prelude.{All}
use Rattle.std.specs.Fmt.{signed_decimal}
use Rattle.std.specs.List.{AllZip, slice_split}
use Rattle.std.specs.Str.Parse.{AllDigits}
use Rattle.std.specs.Char.{digit_value}
use Rattle.std.proofs.lemmas.Fmt.{decimal_is_IsNumeral}
use Rattle.std.proofs.lemmas.Int.{ints}
use Rattle.std.proofs.lemmas.List.Elements.{All-cons, All-head, All-nil, All-tail}
use Rattle.std.proofs.lemmas.List.Splits.{slice_split_none, slice_split_at}
use Rattle.futures.specs.declared.task.Poll.TheVariants.{Ready, Pending}
use Rattle.lite_base.specs.Answers.{Answer}
use Rattle.pollrun.specs.Request.{IsShort, IsWritten}
use Rattle.pollrun.specs.Spelling.{spelled, spelled_list}

-- the byte is no comma
abbrev IsPlain : ℕ → Type 0
IsPlain b = (b == 44) ≡ false

digit_plain_at : (b : ℕ) (t : Bool) → (b == 44) ≡ t → digit_value b < 10 → t ≡ false
digit_plain_at b false e h = refl
digit_plain_at b true e h = let small : digit_value 44 < 10 =
    subst (λ (n : ℕ). digit_value n < 10) (eqb-true b 44 e) h in absurd (omega (arith, small))

digits_plain : (bs : List ℕ) → AllDigits 10 bs → All IsPlain bs
digits_plain [] h = All-nil IsPlain
digits_plain (b ∷ bs) h = All-cons IsPlain b bs (digit_plain_at b (b == 44) refl h.0) (digits_plain bs h.1)

decimal_plain : (n : ℕ) → n < 2 ^ 64 → All IsPlain (decimal n)
decimal_plain n small = digits_plain (decimal n) (decimal_is_IsNumeral n small).0.1

number_plain : (z : ℤ) → IsShort z → All IsPlain (signed_decimal z)
number_plain (pos n) h = decimal_plain n (omega (arith, ints, h.1))
number_plain (negsuc n) h =
    All-cons IsPlain 45 (decimal (suc n)) refl (decimal_plain (suc n) (omega (arith, ints, h.0)))

spelled_plain : (a : Answer ℤ) → IsWritten a → All IsPlain (spelled signed_decimal a)
spelled_plain Pending h = All-cons IsPlain 80 [] refl (All-nil IsPlain)
spelled_plain (Ready None) h = All-cons IsPlain 69 [] refl (All-nil IsPlain)
spelled_plain (Ready (Some z)) h = number_plain z h

pub slice_split-spelled_list : (l : List (Answer ℤ)) → 1 ≤ length l → All IsWritten l
    → slice_split (λ b. b == 44) (spelled_list signed_decimal l) ≡ map (spelled signed_decimal) l
slice_split-spelled_list [] some h = absurd (omega (arith, some))
slice_split-spelled_list (a ∷ []) some h =
    slice_split_none (λ b. b == 44) (spelled signed_decimal a) (spelled_plain a (All-head IsWritten a [] h))
slice_split-spelled_list (a ∷ b ∷ l) some h =
    slice_split_at (λ b. b == 44) (spelled signed_decimal a) 44 (spelled_list signed_decimal (b ∷ l))
    (spelled_plain a (All-head IsWritten a (b ∷ l) h)) refl
    ∙ ap (λ (parts : List (List ℕ)). spelled signed_decimal a ∷ parts)
    (slice_split-spelled_list (b ∷ l) (omega arith) (All-tail IsWritten a (b ∷ l) h))

-- pieces that each spell an answer
pub record AreSpelled {P : Type 0} (now : P → List ℕ) (ps : List P) (l : List (Answer ℤ)) : Type 0 where
  pub each : All IsWritten l
  pub as_written : map now ps ≡ map (spelled signed_decimal) l

pub AreSpelled-from_zip : {P : Type 0} (now : P → List ℕ) (ps : List P) (l : List (Answer ℤ))
    → AllZip (λ p a. IsWritten a × (now p ≡ spelled signed_decimal a)) ps l → AreSpelled now ps l
AreSpelled-from_zip now [] [] h = record { each = All-nil IsWritten; as_written = refl }
AreSpelled-from_zip now [] (a ∷ l) h = absurd h
AreSpelled-from_zip now (p ∷ ps) [] h = absurd h
AreSpelled-from_zip now (p ∷ ps) (a ∷ l) h =
    let rest = AreSpelled-from_zip now ps l h.1 in
    let tail = rest.as_written in
    let head = h.0.1 in
    record { each = All-cons IsWritten a l h.0.0 rest.each; as_written = cc (head, tail) }

-- each piece spells one of the answers
pub piece_spelled : {P : Type 0} (now : P → List ℕ) (ps : List P) (l : List (Answer ℤ)) (k : ℕ) (d : P)
    → map now ps ≡ map (spelled signed_decimal) l → All IsWritten l → k < length ps → (a : Answer ℤ) × IsWritten a
    × (now (get_or ps k d) ≡ spelled signed_decimal a)
piece_spelled now [] l k d e h less = absurd (omega (arith, less))
piece_spelled now (p ∷ ps) [] k d e h less = absurd (cc e)
piece_spelled now (p ∷ ps) (a ∷ l) zero d e h less = (a, All-head IsWritten a l h, cc e)
piece_spelled now (p ∷ ps) (a ∷ l) (suc k) d e h less =
    let rest : map now ps ≡ map (spelled signed_decimal) l = cc e in
    piece_spelled now ps l k d rest (All-tail IsWritten a l h) (omega arith)
