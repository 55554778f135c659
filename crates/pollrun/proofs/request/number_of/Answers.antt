use Rattle.std.proofs.Common.{◌≡◌, ℕ, List, ℤ, pos, negsuc, false, Result, Ok, rules, arith, w32, to_z, of_z, subst}
use Rattle.std.proofs.Common.{sym, ap, ◌∙◌}
use Rattle.std.proofs.lemmas.Int.{ints}
use Rattle.std.specs.Fmt.{signed_decimal}
use Rattle.std.specs.Str.Parse.{ParsesSigned}
use Rattle.std.proofs.lemmas.Fmt.{parse-signed_decimal}
use lib.Signed.{le_z}
use Rattle.pollrun.specs.Request.{IsShort}
use Rattle.pollrun.proofs.Short.{IsShort-fits, IsShort-mag}
use Rattle.pollrun.proofs.request.number_of.Goals as goal

-- a word that spells a short number was read as it
read_back : {E : Type 0} (z y : ℤ) (bs : List ℕ) (r : Result ℤ E) → IsShort z → bs ≡ signed_decimal z
    → ParsesSigned w32 10 bs r → r ≡ Ok y → y ≡ z
read_back z y bs r short e h is =
    let read = parse-signed_decimal w32 z bs r (IsShort-fits z short) (IsShort-mag z short) e h in cc

too_large : (y : ℤ) → IsShort y → le_z (to_z w32 (of_z w32 y)) (pos 999999) ≡ false → ⊥
too_large y short h = grind (arith, ints, IsShort-fits y short)

too_small : (y : ℤ) → IsShort y → le_z (negsuc 999998) (to_z w32 (of_z w32 y)) ≡ false → ⊥
too_small y short h = grind (arith, ints, IsShort-fits y short)

-- and is written as that word again
written_back : (z y : ℤ) (bs word : List ℕ) → IsShort z → y ≡ z → bs ≡ signed_decimal (to_z w32 (of_z w32 y))
    → word ≡ signed_decimal z → bs ≡ word
written_back z y bs word short same text e =
    let fits = IsShort-fits z short in
    let kept : to_z w32 (of_z w32 z) ≡ z = omega (arith, ints, fits) in
    text ∙ ap (λ (v : ℤ). signed_decimal (to_z w32 (of_z w32 v))) same ∙ ap signed_decimal kept ∙ sym e

pub returns-in_default : goal.returns-in_default
returns-in_default c = λ z short e.
    let same = read_back z c.in-Ok.z _ _ short e c.parse.ensures.value.0 c.in-Ok.is in
    let text : c.format.result.now ≡ c.args.word.now =
    written_back z c.in-Ok.z _ _ short same c.format.ensures.text e in
    absurd (search rules)

pub returns-in_default-2 : goal.returns-in_default-2
returns-in_default-2 c = λ z short e.
    let same = read_back z c.in-Ok.z _ _ short e c.parse.ensures.value.0 c.in-Ok.is in
    too_large c.in-Ok.z (subst IsShort (sym same) short) c.if-z-le-LARGEST.false

pub returns-in_default-3 : goal.returns-in_default-3
returns-in_default-3 c = λ z short e.
    let same = read_back z c.in-Ok.z _ _ short e c.parse.ensures.value.0 c.in-Ok.is in
    too_small c.in-Ok.z (subst IsShort (sym same) short) c.if-z.false

pub returns-in_default-4 : goal.returns-in_default-4
returns-in_default-4 c =
    λ z short e. absurd
    (cc (parse-signed_decimal w32 z _ _ (IsShort-fits z short) (IsShort-mag z short) e c.parse.ensures.value.0))
