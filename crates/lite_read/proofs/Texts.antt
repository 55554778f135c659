-- Lines of ASCII, and where they end.
use Rattle.std.specs.Prelude.{◌≡◌, ◌<◌, ◌≤◌, ℕ, Bool, true, List, ◌++◌, Option, Some, None, length, take, position, IsUtf8}
use Rattle.std.proofs.Common.{◌&&◌, ltb}
use Rattle.lite_read.specs.Uses.{◌∙◌, false, cond, refl, ap, sym, subst, arith, All, list_all-append, is_ascii}
use Rattle.lite_read.specs.Uses.{before_first, list_all, position_or_len, IsFirstByte, is_byte, without_return}
use Rattle.std.proofs.lemmas.Bool.{ltb-false, ltb-true}
use Rattle.std.proofs.lemmas.List.{take_all}
use Rattle.std.proofs.lemmas.List.Elements.{All-take}
use Rattle.std.proofs.lemmas.List.Sums.{AllPass-from_list_all, fails_before_first, passes_at_first}
use Rattle.std.proofs.lemmas.Str.{IsUtf8-from_ascii}
use Rattle.std.proofs.lemmas.Str.Ascii.{IsAscii-from_all}
use Rattle.lite_read.specs.Scan.{is_newline}
use Rattle.lite_read.specs.Find.{up_to}

pub ascii_more : (xs ys : List ℕ) (a b : Bool) → a ≡ list_all is_ascii xs → b ≡ list_all is_ascii ys
    → (a && b) ≡ list_all is_ascii (xs ++ ys)
ascii_more xs ys a b h k = cc (h, k, list_all-append is_ascii xs ys)

first_by : (xs : List ℕ) (b : Bool) → (b ≡ true → position_or_len is_newline xs < length xs)
    → (b ≡ false → length xs ≤ position_or_len is_newline xs)
    → IsFirstByte (is_byte 10) xs (cond b (Some (position_or_len is_newline xs)) None)
first_by xs true less more =
    let inside = less refl in (
      record {
        low = omega arith;
        high = inside;
        before =
            λ i low small e. absurd (cc (e, fails_before_first is_newline xs i 0 small));
      },
      passes_at_first is_newline xs 0 inside,
    )
first_by xs false less more =
    λ i low small e. absurd (cc (e, fails_before_first is_newline xs i 0 (omega (arith, small, more refl))))

-- the first newline, as a first byte that passes a test
pub first_newline : (xs : List ℕ) (r : Option ℕ) → r ≡ position is_newline xs → IsFirstByte (is_byte 10) xs r
first_newline xs r e =
    subst (IsFirstByte (is_byte 10) xs) (sym e) (first_by xs (ltb _ _) (ltb-true _ _) (ltb-false _ _))

up_by : (xs : List ℕ) (b : Bool) → (b ≡ false → length xs ≤ position_or_len is_newline xs)
    → before_first is_newline xs ≡ up_to (cond b (Some (position_or_len is_newline xs)) None) xs
up_by xs true more = refl
up_by xs false more = take_all _ xs (more refl)

pub line_ascii : (xs : List ℕ) (r : Option ℕ) (a : Bool) → r ≡ position is_newline xs
    → a ≡ list_all is_ascii (before_first is_newline xs) → a ≡ list_all is_ascii (up_to r xs)
line_ascii xs r a e h =
    h ∙ ap (list_all is_ascii) (up_by xs (ltb _ _) (ltb-false _ _) ∙ ap (λ v. up_to v xs) (sym e))

small : (bs : List ℕ) → list_all is_ascii bs ≡ true → All (λ b. b < 128) bs
small bs e = λ i d inside. ltb-true _ _ (AllPass-from_list_all is_ascii bs e i d inside)

-- ASCII is UTF-8
pub all_utf8 : (bs : List ℕ) (a : Bool) → a ≡ list_all is_ascii bs → a ≡ true → IsUtf8 bs
all_utf8 bs a e t = IsUtf8-from_ascii bs (IsAscii-from_all bs (small bs (sym e ∙ t)))

shorter_utf8 : (bs : List ℕ) (n : ℕ) (b : Bool) → All (λ b. b < 128) bs → IsUtf8 (cond b (take n bs) bs)
shorter_utf8 bs n true h = IsUtf8-from_ascii _ (IsAscii-from_all _ (All-take (λ b. b < 128) n bs h))
shorter_utf8 bs n false h = IsUtf8-from_ascii bs (IsAscii-from_all bs h)

pub line_utf8 : (bs : List ℕ) (a : Bool) → a ≡ list_all is_ascii bs → a ≡ true → IsUtf8 (without_return bs)
line_utf8 bs a e t = shorter_utf8 bs _ _ (small bs (sym e ∙ t))
