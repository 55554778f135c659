-- The lines of `LineDelimited` at the front of some bytes.
use Rattle.std.specs.Prelude.{◌≡◌, ◌≢◌, ◌⊎◌, ◌≤◌, ◌<◌, ◌==◌, ◌+◌, ◌-◌, Bool, true, false, ℕ, zero, suc, List, [], ◌∷◌, ◌++◌, length, take, drop, IsErr, IsErrAnd, Option, Result, Ok, Err}
use Rattle.std.proofs.Common.{◌∙◌, ap, append-nil, append_assoc, arith, eqb-true, inl, inr, length-append, length-take-le, refl, sym, take-append-drop}
use Rattle.std.proofs.lemmas.Bool.{cases_lt, eqb-false}
use Rattle.std.proofs.lemmas.List.Elements.{All-cons, All-nil, All-take}
use Rattle.std.proofs.lemmas.List.{take-take}
use Rattle.bytes.specs.Filled.{Filled}
use Rattle.framed.specs.Uses.{without_return}
use Rattle.tokio_util.specs.Codec.Next.{Decodes}
use Rattle.framed.specs.FrameErrors.{SaysOutOfMemory}
use Rattle.framed.specs.Heads.{FindsDelimiter, none_within, text_has_none, text_length, up_to_text, with_delimiter}
use Rattle.framed.specs.LineDelimited.{HasNoNewline, IsLongLineCut, LineOf, gives_line_delimited, with_newline}
use Rattle.lent_frames.specs.Cutting.{CutFound}
use Rattle.lent_frames.specs.Cutting.{Undecided}
use Rattle.lent_frames.specs.declared.cut.Cut.TheVariants.{Whole}
use Rattle.framed.specs.declared.cut_error.CutError.TheVariants as small
use Rattle.framed.specs.declared.delimiter.Delimiter.TheVariants.{At}
use Rattle.framed.specs.declared.frame_error.FrameError.{FrameError}
use Rattle.framed.specs.declared.line_delimited.LineDelimited.{LineDelimited}

module _ (c : LineDelimited) (xs : List ℕ) where
  module _ (at : ℕ) (h : FindsDelimiter 10 c.max xs (At at)) where
    pub line_found : LineOf c (without_return (take at xs)) (take (at + 1) xs)
    line_found = (
      take at xs,
      text_has_none 10 c.max xs at h,
      omega (arith, text_length 10 c.max xs at h, h.0),
      refl,
      with_delimiter 10 c.max xs at h,
    )

    -- For a line that is there memory was refused.
    pub line_lacks_memory : (r : Result (Option Filled) FrameError) → IsErr r → IsErrAnd r SaysOutOfMemory → (ys : List ℕ) → ys ≡ xs
        → Decodes gives_line_delimited c xs r c ys
    line_lacks_memory (Ok v) is e ys same = cc is
    line_lacks_memory (Err e) is lacks ys same = (
      refl,
      same,
      (take (at + 1) xs, drop (at + 1) xs, sym (take-append-drop (at + 1) xs), inr (lacks, record { items = without_return (take at xs); spare = 0 }, line_found)),
    )

-- Some bytes have no newline, or there is a first one.
abbrev Newline : List ℕ → Type 0
Newline xs = HasNoNewline xs ⊎ ((text rest : List ℕ) × HasNoNewline text × (xs ≡ text ++ 10 ∷ rest))

newline_behind : (x : ℕ) (xs : List ℕ) (b : Bool) → (x == 10) ≡ b → Newline xs → Newline (x ∷ xs)
newline_behind x xs true is h = inr ([], xs, All-nil (λ b. b ≢ 10), ap (λ y. y ∷ xs) (eqb-true x 10 is))
newline_behind x xs false is (inl none) = inl (All-cons (λ b. b ≢ 10) x xs (eqb-false x 10 is) none)
newline_behind x xs false is (inr (text, rest, none, cut)) =
    inr (x ∷ text, rest, All-cons (λ b. b ≢ 10) x text (eqb-false x 10 is) none, ap (λ l. x ∷ l) cut)

first_newline : (xs : List ℕ) → Newline xs
first_newline [] = inl (All-nil (λ b. b ≢ 10))
first_newline (x ∷ xs) = newline_behind x xs (x == 10) refl (first_newline xs)

module _ (c : LineDelimited) (xs : List ℕ) where
  -- Up to a newline there is a line, or it is too long.
  no_newline : Undecided LineOf IsLongLineCut c xs → (text rest : List ℕ) → HasNoNewline text → xs ≡ text ++ 10 ∷ rest
      → (c.max < length text) ⊎ (length text ≤ c.max) → ⊥
  no_newline undecided text rest none is (inr fits) =
      (undecided (with_newline text) rest (is ∙ sym (append_assoc text (10 ∷ []) rest))).0 (without_return text) (text, none, fits, refl, refl)
  no_newline undecided text rest none is (inl long) =
      (undecided (take (c.max + 1) text) (drop (c.max + 1) text ++ 10 ∷ rest)
      (is ∙ ap (λ l. l ++ 10 ∷ rest) (sym (take-append-drop (c.max + 1) text)) ∙ append_assoc (take (c.max + 1) text) (drop (c.max + 1) text) (10 ∷ rest))).1
      (small.TooLong (c.max + 1)) (All-take (λ b. b ≢ 10) (c.max + 1) text none, length-take-le (c.max + 1) text (omega (arith, long)), refl)

  -- Where nothing is decided there is no newline.
  pub open_has_none : Undecided LineOf IsLongLineCut c xs → HasNoNewline xs
  open_has_none undecided =
      elim (first_newline xs) [
        | inl none ↦ none
        | inr (text, rest, none, is) ↦ absurd (no_newline undecided text rest none is (cases_lt c.max (length text)))
      ]

  -- Nothing is decided without a newline, while there is room.
  pub line_open : HasNoNewline xs → length xs ≤ c.max → (more : List ℕ) → length (xs ++ more) < length xs + 1
      → Undecided LineOf IsLongLineCut c (xs ++ more)
  line_open none short [] less front rest is =
      let all : xs ≡ front ++ rest = sym (append-nil xs) ∙ is in (
        (λ v l. none_within 10 xs l.0 rest none (all ∙ ap (λ s. s ++ rest) l.4 ∙ append_assoc l.0 (10 ∷ []) rest)),
        (λ e l. omega (arith, short, l.1, ap length all, length-append front rest)),
      )
  line_open none short (m ∷ more) less front rest is = absurd (omega (arith, less, length-append xs (m ∷ more)))

pub seen_has_none : (c : LineDelimited) (xs : List ℕ) (seen : ℕ) → (0 < seen → Undecided LineOf IsLongLineCut c (take seen xs))
    → HasNoNewline (take seen xs)
seen_has_none c xs zero undecided = All-nil (λ b. b ≢ 10)
seen_has_none c xs (suc seen) undecided = open_has_none c (take (suc seen) xs) (undecided (omega arith))

-- The text before a newline that was found, with the length of the line in it.
pub line_cut : (c : LineDelimited) (xs : List ℕ) (at k : ℕ) → FindsDelimiter 10 c.max xs (At at) → k ≤ length (take at xs)
    → take k (take at xs) ≡ without_return (take at xs)
    → CutFound LineOf IsLongLineCut c xs (Whole (record { from = 0; to = k; size = at + 1 }))
line_cut c xs at k found short line =
    let max = c.max in
    let long = text_length 10 max xs at found in
    let there = ap length (up_to_text 10 max xs at found) in
    let text : take (k - 0) xs ≡ without_return (take at xs) =
    ap (λ n. take n xs) (omega arith) ∙ sym (take-take k at xs (omega (arith, short, long))) ∙ line in (
      (omega arith, omega (arith, short, long), omega (arith, long, there, length-append (take at xs) (10 ∷ found.2))),
      (take at xs, text_has_none 10 max xs at found, omega (arith, long, found.0), text, with_delimiter 10 max xs at found),
    )
