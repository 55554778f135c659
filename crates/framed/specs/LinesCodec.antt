-- Lines are given at their newline.
use Rattle.std.specs.Prelude.{◌≡◌, ◌<◌, ◌≤◌, ◌+◌, ℕ, true, false, List, [], ◌∷◌, ◌++◌, length, take, drop, String, Ok, Some}
use Rattle.std.specs.declared.alloc.Global.{Global}
use Rattle.std.proofs.Common.{◌∙◌, ap, append_assoc, arith, drop_of_length-le, inl, inr, length-take-le, refl, subst, sym, take-append-drop}
use Rattle.std.proofs.lemmas.Bool.{cases_lt}
use Rattle.std.proofs.lemmas.List.{take-append-le}
use Rattle.tokio_util.specs.declared.codec.lines_codec.LinesCodec.{LinesCodec}
use Rattle.tokio_util.specs.Codec.Lines.{Answers, AnswersAtEnd, Scan, gives_lines, line, newline_from, read_line, scan, skip_line, too_long, unfinished, without_carriage_return}
use Rattle.tokio_util.specs.Codec.LinesLaws.{le-newline_from, newline_from-append_found, newline_from-append_missing, read_line_found, read_line_long, read_line_short, skip_line-append_found, skip_line_found, skip_line_missing}
use Rattle.tokio_util.specs.Codec.Next.{decoded}
use Rattle.framed.specs.Prompt.{PromptLaws}

-- A front of the bytes that ends with the first newline has it at the same place.
newline_kept : (from : ℕ) (f rest : List ℕ) → newline_from from (f ++ rest) + 1 ≡ length f
    → newline_from from f ≡ newline_from from (f ++ rest)
newline_kept from f rest e =
    elim (cases_lt (newline_from from f) (length f)) [
      | inl found ↦ sym (newline_from-append_found from f rest found)
      | inr past ↦ absurd (omega (
        arith,
        e,
        past,
        newline_from-append_missing from f rest
            (omega (arith, e, le-newline_from from (f ++ rest))) past,
      ))
    ]

-- The front of some bytes that is one line, as `scans` reads it.
record LineFront (scans : List ℕ → Scan) (xs text rest : List ℕ) : Type 0 where
  front : List ℕ
  cut : xs ≡ front ++ rest
  alone : scans front ≡ line text []

module _ (limit from : ℕ) (xs text rest : List ℕ) (is : read_line limit from xs ≡ line text rest) where
  -- Where the first newline is.
  abbrev at : ℕ
  at = newline_from from xs

  -- The bytes through it.
  abbrev first : List ℕ
  first = take (at + 1) xs

  module _ (found : at < length xs) (short : at ≤ limit) where
    first_length : length first ≡ at + 1
    first_length = length-take-le (at + 1) xs (omega (arith, found))

    first_newline : newline_from from first ≡ at
    first_newline =
        let whole = ap (newline_from from) (take-append-drop (at + 1) xs) in
        newline_kept from first (drop (at + 1) xs) (omega (arith, whole, first_length)) ∙ whole

    first_text : take at first ≡ take at xs
    first_text =
        sym (take-append-le at first (drop (at + 1) xs) (omega (arith, first_length)))
        ∙ ap (take at) (take-append-drop (at + 1) xs)

    first_alone : read_line limit from first ≡ line (without_carriage_return (take at xs)) []
    first_alone =
        read_line_found limit from first (omega (arith, first_newline, first_length)) (omega (arith, first_newline, short))
        ∙ rw (first_newline, first_text, drop_of_length-le first {i = at + 1} (omega (arith, first_length))) refl

    read_front : LineFront (read_line limit from) xs text rest
    read_front =
        let both = sym (read_line_found limit from xs found short) ∙ is in
        let same : without_carriage_return (take at xs) ≡ text = cc both in
        let behind : drop (at + 1) xs ≡ rest = cc both in
        record {
          front = first;
          cut = sym (take-append-drop (at + 1) xs) ∙ ap (λ l. first ++ l) behind;
          alone = first_alone ∙ ap (λ l. line l []) same;
        }

  line_front : LineFront (read_line limit from) xs text rest
  line_front =
      elim (cases_lt limit at) [
        | inl far ↦ elim (cases_lt limit (length xs)) [
          | inl long ↦ let both = sym (read_line_long limit from xs far long) ∙ is in cc both
          | inr small ↦ let both = sym (read_line_short limit from xs (omega arith) small) ∙ is in cc both
        ]
        | inr near ↦ elim (cases_lt at (length xs)) [
          | inl found ↦ read_front found near
          | inr missing ↦ let both = sym (read_line_short limit from xs missing (omega arith)) ∙ is in cc both
        ]
      ]

module _ (limit : ℕ) (xs text rest : List ℕ) (is : skip_line limit xs ≡ line text rest) where
  -- The bytes through the first newline, which are dropped.
  abbrev skipped : List ℕ
  skipped = take (newline_from 0 xs + 1) xs

  skip_found : newline_from 0 xs < length xs → LineFront (skip_line limit) xs text rest
  skip_found found =
      let n = newline_from 0 xs in
      let more = line_front limit 0 (drop (n + 1) xs) text rest (sym (skip_line_found limit xs found) ∙ is) in
      let long : length skipped ≡ n + 1 = length-take-le (n + 1) xs (omega (arith, found)) in
      let whole = ap (newline_from 0) (take-append-drop (n + 1) xs) in
      let kept : newline_from 0 skipped ≡ n = newline_kept 0 skipped (drop (n + 1) xs) (omega (arith, whole, long)) ∙ whole in
      let none = drop_of_length-le skipped {i = n + 1} (omega (arith, long)) in
      record {
        front = skipped ++ more.front;
        cut = sym (take-append-drop (n + 1) xs) ∙ ap (λ l. skipped ++ l) more.cut
            ∙ sym (append_assoc skipped more.front rest);
        alone = skip_line-append_found limit skipped more.front (omega (arith, kept, long))
            ∙ rw (kept, none) more.alone;
      }

  skip_front : LineFront (skip_line limit) xs text rest
  skip_front =
      elim (cases_lt (newline_from 0 xs) (length xs)) [
        | inl found ↦ skip_found found
        | inr missing ↦ let both = sym (skip_line_missing limit xs missing) ∙ is in cc both
      ]

scan_front : (c : LinesCodec) (xs text rest : List ℕ) → scan c xs ≡ line text rest → LineFront (scan c) xs text rest
scan_front c xs text rest =
    elim c.is_discarding as (λ b. scan (record c { is_discarding = b }) xs ≡ line text rest
    → LineFront (scan (record c { is_discarding = b })) xs text rest) [
      | true ↦ λ is. skip_front c.max_length xs text rest is
      | false ↦ λ is. line_front c.max_length c.next_index xs text rest is
    ]

-- Without bytes there is no line.
pub scan_nothing : (c : LinesCodec) → scan c [] ≡ unfinished c.is_discarding []
scan_nothing c =
    elim c.is_discarding as (λ b. scan (record c { is_discarding = b }) [] ≡ unfinished b []) [
      | true ↦ skip_line_missing c.max_length [] (omega arith)
      | false ↦ read_line_short c.max_length c.next_index [] (omega arith) (omega arith)
    ]

pub no_text : without_carriage_return [] ≡ []
unfolding without_carriage_return
no_text = refl

-- A line is a front of the bytes, and is given of these alone.
abbrev Alone : LinesCodec → List ℕ → String Global → LinesCodec → List ℕ → Type 0
Alone c xs x t ys = (frame : List ℕ) × (xs ≡ frame ++ ys) × gives_lines c frame (decoded (Ok x) t [])

module _ (c : LinesCodec) (xs : List ℕ) (x : String Global) (t : LinesCodec) (ys : List ℕ) where
  line_alone : (s : Scan) → scan c xs ≡ s → Answers c.max_length s (Ok x) t ys → Alone c xs x t ys
  line_alone (line text rest) is (inl read) =
      let one = scan_front c xs text rest is in (
        one.front,
        one.cut ∙ ap (λ l. one.front ++ l) (sym read.2),
        subst (λ s. Answers c.max_length s (Ok x) t []) (sym one.alone) (inl (read.0, read.1, refl)),
      )
  line_alone (line text rest) is (inr refused) = absurd refused.0
  line_alone (too_long rest) is h = let e = h.0 in cc e
  line_alone (unfinished is_dropped kept) is h = absurd h

  some_text : (s : Scan) → scan c xs ≡ s → AnswersAtEnd c.max_length s (Ok (Some x)) t ys → length ys < length xs
  some_text (line text rest) is h = absurd h
  some_text (too_long rest) is h = absurd h
  some_text (unfinished is_dropped kept) is h = longer xs is
    where
      longer : (l : List ℕ) → scan c l ≡ unfinished is_dropped kept → length ys < length l
      longer [] e =
          let both = sym (scan_nothing c) ∙ e in
          let none : [] ≡ kept = cc both in
          absurd (omega (arith, rw (← none, no_text) at h.0.0))
      longer (b ∷ l) e = omega (arith, ap length h.0.2)

-- A line of no bytes has at least its newline.
nothing_owed : (c : LinesCodec) (x : String Global) (t : LinesCodec) → gives_lines c [] (decoded (Ok x) t []) → ⊥
nothing_owed c x t h = rw (scan_nothing c) at h

pub lines_prompt : PromptLaws gives_lines (λ _. 0)
lines_prompt =
    record {
      alone = λ c xs x t ys h. line_alone c xs x t ys (scan c xs) refl h;
      owed = λ c x t h. absurd (nothing_owed c x t h);
      waits = λ c xs h. refl;
      last = λ c xs x t ys h. some_text c xs x t ys (scan c xs) refl h;
    }
