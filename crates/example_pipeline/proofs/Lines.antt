-- Laws of a text that is read line by line: where its lines are, which number is the first that is bad, and what is written.
use Rattle.std.proofs.Common.{◌≡◌, ◌==◌, ℕ, ◌+◌, ◌-◌, ◌<◌, ◌%◌, ◌∙◌, Bool, true, false, not}
use Rattle.std.proofs.Common.{List, [], ◌∷◌, ◌++◌, Some, None, ap, append-nil, append_assoc, arith, drop, filter, if◌then◌else◌}
use Rattle.std.proofs.Common.{length, nat_lt, ne_eqb, refl, sym, take, inl, inr, le-ltb, length-append, ◌⊎◌}
use Rattle.std.proofs.lemmas.Grind.{flat_map-append}
use Rattle.std.proofs.lemmas.List.{take-append-drop}
use Rattle.std.proofs.lemmas.List.Elements.{filter-append}
use Rattle.std.proofs.lemmas.Slice.Eq.{bytes_eq-Decides}
use Rattle.std.specs.Prelude.{⊤}
use Rattle.std.specs.List.{prefix_len}
use Rattle.std.specs.Option.{is_none}
use Rattle.std.specs.Str.{bytes_eq}
use Rattle.futures_lite.specs.Lists.{map_while}
use Rattle.futures_lite.specs.Lines.{byte_lines, last_piece, pieces_from, without_return}
use Rattle.futures_lite.specs.Readers.{StandsFirst, Without}
use Rattle.example_pipeline.specs.Pipeline.{even_numbers, first_bad, full_sums, full_text, if_even, last_sums, line_number, line_text}
use Rattle.example_pipeline.specs.Pipeline.{sum_line, sums_text, text_of_sums, window_sums}
use Rattle.example_pipeline.specs.Runs.{EndsInNewline}

-- Windows.
pub window_both : (l : List ℕ) → window_sums l ≡ full_sums l ++ last_sums l
window_both [] = refl
window_both (a ∷ []) = refl
window_both (a ∷ b ∷ []) = refl
window_both (a ∷ b ∷ c ∷ l) = ap (λ k. (a + b + c) ∷ k) (window_both l)

pub window_front : (l m : List ℕ) → (rest : List ℕ) × (window_sums (l ++ m) ≡ full_sums l ++ rest)
window_front [] m = (window_sums m, refl)
window_front (a ∷ []) m = (window_sums (a ∷ m), refl)
window_front (a ∷ b ∷ []) m = (window_sums (a ∷ b ∷ m), refl)
window_front (a ∷ b ∷ c ∷ l) m = let more = window_front l m in (more.0, ap (λ k. (a + b + c) ∷ k) more.1)

pub texts_both : (xs ys : List ℕ) → text_of_sums (xs ++ ys) ≡ text_of_sums xs ++ text_of_sums ys
texts_both xs ys = flat_map-append sum_line xs ys

-- Lines.
chosen : (c : Bool) (x y p q r : List (List ℕ)) → x ≡ p ++ r → y ≡ q ++ r → (if c then x else y) ≡ (if c then p else q) ++ r
chosen true x y p q r h k = h
chosen false x y p q r h k = k

module _ (h : List ℕ → List ℕ) where
  pieces_both : (front more held : List ℕ) → pieces_from 10 h held ((front ++ 10 ∷ []) ++ more)
      ≡ pieces_from 10 h held (front ++ 10 ∷ []) ++ pieces_from 10 h [] more
  pieces_both [] more held = refl
  pieces_both (b ∷ front) more held = chosen (b == 10) _ _ _ _ (pieces_from 10 h [] more)
      (ap (λ k. h held ∷ k) (pieces_both front more [])) (pieces_both front more (held ++ b ∷ []))

  piece_one : (front held : List ℕ) → Without 10 front → pieces_from 10 h held (front ++ 10 ∷ []) ≡ h (held ++ front) ∷ []
  piece_one [] held w = ap (λ k. h k ∷ []) (sym (append-nil held))
  piece_one (b ∷ front) held w = rw (ne_eqb b 10 w.0)
      (piece_one front (held ++ b ∷ []) w.1 ∙ ap (λ k. h k ∷ []) (append_assoc held (b ∷ []) front))

  piece_last : (xs held : List ℕ) → Without 10 xs → pieces_from 10 h held xs ≡ last_piece (held ++ xs)
  piece_last [] held w = ap last_piece (sym (append-nil held))
  piece_last (b ∷ xs) held w = rw (ne_eqb b 10 w.0) (piece_last xs (held ++ b ∷ []) w.1 ∙ ap last_piece (append_assoc held (b ∷ []) xs))

pub lines_both : (text more : List ℕ) → EndsInNewline text → byte_lines (text ++ more) ≡ byte_lines text ++ byte_lines more
lines_both text more (inl e) = rw e refl
lines_both text more (inr e) = rw e.1 (pieces_both without_return e.0 more [])

newline_at_end : (line : List ℕ) → bytes_eq (drop (length line - 1) line) (10 ∷ []) ≡ true → line ≡ take (length line - 1) line ++ 10 ∷ []
newline_at_end line e =
    let end = (bytes_eq-Decides (drop (length line - 1) line) (10 ∷ [])).0 e in
    sym (take-append-drop (length line - 1) line) ∙ ap (λ k. take (length line - 1) line ++ k) end

without_last : (xs : List ℕ) → Without 10 (xs ++ 10 ∷ []) → ⊥
without_last [] h = h.0 refl
without_last (x ∷ xs) h = without_last xs h.1

text_whole : (front : List ℕ) → line_text (front ++ 10 ∷ []) ≡ without_return front
text_whole front =
    let long : length (front ++ 10 ∷ []) - 1 ≡ length front = omega (arith, length-append front (10 ∷ [])) in
    rw (long, drop_front front, take_front front) refl
  where
    drop_front : (xs : List ℕ) → drop (length xs) (xs ++ 10 ∷ []) ≡ 10 ∷ []
    drop_front [] = refl
    drop_front (x ∷ xs) = drop_front xs

    take_front : (xs : List ℕ) → take (length xs) (xs ++ 10 ∷ []) ≡ xs
    take_front [] = refl
    take_front (x ∷ xs) = ap (λ k. x ∷ k) (take_front xs)

text_last : (line : List ℕ) → Without 10 line → line_text line ≡ line
text_last line w = at (bytes_eq (drop (length line - 1) line) (10 ∷ [])) refl
  where
    at : (c : Bool) → bytes_eq (drop (length line - 1) line) (10 ∷ []) ≡ c
        → (if c then without_return (take (length line - 1) line) else line) ≡ line
    at true e = absurd (without_last (take (length line - 1) line) (rw (newline_at_end line e) at w))
    at false e = refl

-- The line is one piece, which a newline ends or nothing does.
abbrev pub OneLine : List ℕ → Type 0
OneLine line = ((front : List ℕ) × Without 10 front × (line ≡ front ++ 10 ∷ [])) ⊎ (Without 10 line × (0 < length line))

last_one : (line : List ℕ) → 0 < length line → last_piece line ≡ line ∷ []
last_one [] h = absurd (omega arith)
last_one (b ∷ line) h = refl

lines_one : (line : List ℕ) → OneLine line → byte_lines line ≡ line_text line ∷ []
lines_one line (inl e) = rw (e.2, text_whole e.0) (piece_one without_return e.0 [] e.1)
lines_one line (inr e) = rw (text_last line e.0) (piece_last without_return line [] e.0 ∙ last_one line e.1)

pub lines_more : (text line : List ℕ) → EndsInNewline text → OneLine line → byte_lines (text ++ line) ≡ byte_lines text ++ line_text line ∷ []
lines_more text line whole one = lines_both text line whole ∙ ap (λ k. byte_lines text ++ k) (lines_one line one)

-- Numbers.
abbrev pub AllNumbers : List (List ℕ) → Type 0
AllNumbers [] = ⊤
AllNumbers (line ∷ lines) = ((x : ℕ) × (line_number line ≡ Some x)) × AllNumbers lines

is_number : List ℕ → Bool
is_number line = not (is_none (line_number line))

pub numbers_more : (lines : List (List ℕ)) (line : List ℕ) (x : ℕ) → AllNumbers lines → line_number line ≡ Some x → AllNumbers (lines ++ line ∷ [])
numbers_more [] line x h e = ((x, e), tt)
numbers_more (l ∷ lines) line x h e = (h.0, numbers_more lines line x h.1 e)

front_long : (lines more : List (List ℕ)) → AllNumbers lines
    → prefix_len (λ line. not (is_none (line_number line))) (lines ++ more)
    ≡ length lines + prefix_len (λ line. not (is_none (line_number line))) more
front_long [] more h = omega arith
front_long (line ∷ lines) more h = rw h.0.1 (omega (arith, front_long lines more h.1))

not_less : (n : ℕ) → nat_lt n n ≡ false
not_less n = le-ltb n n (omega arith)

pub none_bad : (lines : List (List ℕ)) → AllNumbers lines → first_bad lines ≡ None
none_bad lines h =
    let long : prefix_len (λ line. not (is_none (line_number line))) lines ≡ length lines =
    rw (append-nil lines) at (front_long lines [] h) ∙ omega arith in
    rw (long, not_less (length lines)) refl

map_both : (lines more : List (List ℕ)) → AllNumbers lines
    → map_while line_number (lines ++ more) ≡ map_while line_number lines ++ map_while line_number more
map_both [] more h = refl
map_both (line ∷ lines) more h = rw h.0.1 (ap (λ k. h.0.0 ∷ k) (map_both lines more h.1))

pub evens_both : (lines more : List (List ℕ)) → AllNumbers lines → even_numbers (lines ++ more) ≡ even_numbers lines ++ even_numbers more
evens_both lines more h = ap (filter (λ x. x % 2 == 0)) (map_both lines more h)
    ∙ filter-append (λ x. x % 2 == 0) (map_while line_number lines) (map_while line_number more)

pub evens_more : (lines : List (List ℕ)) (line : List ℕ) (x : ℕ) → AllNumbers lines → line_number line ≡ Some x
    → even_numbers (lines ++ line ∷ []) ≡ even_numbers lines ++ if_even x
evens_more lines line x h e =
    let one : even_numbers (line ∷ []) ≡ if_even x = rw e refl in
    evens_both lines (line ∷ []) h ∙ ap (λ k. even_numbers lines ++ k) one

-- What is written for whole lines is a prefix of what is written for a text that goes on.
pub text_front : (text more : List ℕ) → EndsInNewline text → AllNumbers (byte_lines text)
    → StandsFirst (full_text (byte_lines text)) (sums_text (byte_lines (text ++ more)))
text_front text more whole good =
    let evens : even_numbers (byte_lines (text ++ more)) ≡ even_numbers (byte_lines text) ++ even_numbers (byte_lines more) =
    ap even_numbers (lines_both text more whole) ∙ evens_both (byte_lines text) (byte_lines more) good in
    let front = window_front (even_numbers (byte_lines text)) (even_numbers (byte_lines more)) in (
      text_of_sums front.0,
      ap (λ k. text_of_sums (window_sums k)) evens ∙ ap text_of_sums front.1 ∙ texts_both (full_sums (even_numbers (byte_lines text))) front.0,
    )
