-- The steps of adding lines, and how a run ends.
use Rattle.std.proofs.Common.{◌≡◌, ℕ, ◌+◌, ◌-◌, ◌^◌, ◌<◌, ◌∙◌, Bool, true, false, inl, inr, List, [], ◌∷◌, ◌++◌, Some, None, ap, append-nil, append_assoc}
use Rattle.std.proofs.Common.{arith, length, refl, sym, min, length-append, Result, Ok, Err, Option, option_to_list, IfOk, IfErr, decimal}
use Rattle.std.proofs.lemmas.List.{map-append}
use Rattle.std.specs.IoError.{error_kind}
use Rattle.std.specs.declared.io.Error.{Error}
use Rattle.futures_lite.specs.Laws.Told.{told_follow, told_none}
use Rattle.futures_lite.specs.Lines.{byte_lines}
use Rattle.futures_lite.specs.Marks.{ReadMark, WriteMark, bytes}
use Rattle.futures_lite.specs.Own.{MarkLaws, Runs}
use Rattle.futures_lite.specs.Readers.{ToldStripped}
use Rattle.example_pipeline.proofs.Lines.{AllNumbers, OneLine, evens_more, lines_more, none_bad, numbers_more, text_front}
use Rattle.example_pipeline.proofs.Lines.{texts_both, window_both}
use Rattle.example_pipeline.proofs.Taken.{fails_more, fails_sooner, flush_fails, text_more}
use Rattle.example_pipeline.specs.Pipeline.{HoldsWindow, IsBadLine, SumPasses, even_numbers, full_sums, full_text, if_even, last_sums, line_number}
use Rattle.example_pipeline.specs.Pipeline.{line_text, sum_line, sums_text, text_of_sums}
use Rattle.example_pipeline.specs.Runs.{AddFails, AddsLines, AddsLine, EndFails, EndsOutput, EndsBadly, EndsByCause, EndsEarly, EndsUnwritten}
use Rattle.example_pipeline.specs.Runs.{FailsOutput, FailsTaking, FailsWithin, TakesFlush}
use Rattle.example_pipeline.specs.Runs.{InputFails, IsReading, MemoryFails, GivesWholeText, GivesLine, LineRead, SumFails, SumsWhole}
use Rattle.example_pipeline.specs.Runs.{CutAtLine, EndsInNewline, TakesFlushed, TakesWholeText, WroteAll, WroteEarly, WroteFull, WroteSome, counted_lines}
use Rattle.example_pipeline.specs.declared.fault.Cause.{Cause}
use Rattle.example_pipeline.specs.declared.fault.Cause.TheVariants.{Input, Memory, NotANumber, NotUtf8, Output, Overflow}
use Rattle.example_pipeline.specs.declared.sums.Sums.{Sums}

-- Whole lines were added, which are numbers. The sums of the full windows were written.
pub record SoFar {T O : Type 0} (reads : Runs ReadMark T) (writes : Runs WriteMark O) (x : T) (w : O) (s : Sums) (n : ℕ) (y : T) (v : O)
    : Type 0 where
  pub text : List ℕ
  pub told : ToldStripped reads x (bytes text) y
  pub whole : EndsInNewline text
  pub good : AllNumbers (byte_lines text)
  pub numbered : n ≡ counted_lines (length (byte_lines text))
  pub holds : HoldsWindow s (even_numbers (byte_lines text))
  pub wrote : TakesWholeText writes w (full_text (byte_lines text)) v

pub counted_next : (n k : ℕ) → n ≡ counted_lines k → min (n + 1) (2 ^ 64 - 1) ≡ counted_lines (k + 1)
counted_next n k h = omega (arith, h)

counted_line : (n : ℕ) (lines : List (List ℕ)) (line : List ℕ) → n ≡ counted_lines (length lines)
    → min (n + 1) (2 ^ 64 - 1) ≡ counted_lines (length (lines ++ line ∷ []))
counted_line n lines line h = rw (length-append lines (line ∷ [])) (counted_next n (length lines) h)

module _ {T O : Type 0} (reads : Runs ReadMark T) (writes : Runs WriteMark O) (laws : MarkLaws reads) (rules : MarkLaws writes) where
  more_told : (x y z : T) (text line : List ℕ) → ToldStripped reads x (bytes text) y → ToldStripped reads y (bytes line) z
      → ToldStripped reads x (bytes (text ++ line)) z
  more_told x y z text line h k = rw (map-append ReadMark.byte text line) (told_follow laws x y z (bytes text) (bytes line) h k)

  last_told : (x y z : T) (text line : List ℕ) → ToldStripped reads x (bytes text) y → GivesWholeText reads y line z
      → GivesWholeText reads x (text ++ line) z
  last_told x y z text line h k =
      rw (map-append ReadMark.byte text line, append_assoc (bytes text) (bytes line) (ReadMark.end ∷ []))
      (told_follow laws x y z (bytes text) (bytes line ++ ReadMark.end ∷ []) h k)

  line_told : (x y z : T) (text line : List ℕ) (whole : Bool) → ToldStripped reads x (bytes text) y → GivesLine reads y line whole z
      → (rest : List ReadMark) × ToldStripped reads x (bytes (text ++ line) ++ rest) z × CutAtLine (text ++ line) rest
  line_told x y z text line true h k = (
    [],
    rw (append-nil (bytes (text ++ line))) (more_told x y z text line h k.0),
    inl (inr (text ++ k.1.0, rw k.1.2 (sym (append_assoc text k.1.0 (10 ∷ []))))),
  )
  line_told x y z text line false h k = (ReadMark.end ∷ [], last_told x y z text line h k.0, inr refl)

  -- What stands behind the whole lines, as marks.
  rest_told : (x y z : T) (text line : List ℕ) (whole : Bool) → 0 < length line → ToldStripped reads x (bytes text) y
      → GivesLine reads y line whole z → (rest : List ReadMark) × ToldStripped reads x (bytes text ++ rest) z × LineRead line rest
  rest_told x y z text line true long h k =
      (bytes line, told_follow laws x y z (bytes text) (bytes line) h k.0, inl (k.1.0, k.1.1, k.1.2, refl))
  rest_told x y z text line false long h k = (
    bytes line ++ ReadMark.end ∷ [],
    told_follow laws x y z (bytes text) (bytes line ++ ReadMark.end ∷ []) h k.0,
    inr (k.1, long, refl),
  )

  one_line : (y z : T) (line : List ℕ) (whole : Bool) → 0 < length line → GivesLine reads y line whole z → OneLine line
  one_line y z line true long h = inl h.1
  one_line y z line false long h = inr (h.1, long)

  pub start : (x : T) (w : O) (s : Sums) → HoldsWindow s [] → SoFar reads writes x w s 0 x w
  start x w s none = record {
    text = [];
    told = told_none laws x;
    whole = inl refl;
    good = tt;
    numbered = omega arith;
    holds = none;
    wrote = ([], rules.rests w, tt, refl);
  }

  sums_both : (lines : List (List ℕ)) → sums_text lines ≡ full_text lines ++ text_of_sums (last_sums (even_numbers lines))
  sums_both lines = ap text_of_sums (window_both (even_numbers lines))
      ∙ texts_both (full_sums (even_numbers lines)) (last_sums (even_numbers lines))

  some_of_all : (w v : O) (lines : List (List ℕ)) (e : Error) → FailsTaking writes w (full_text lines) e v
      → FailsTaking writes w (sums_text lines) e v
  some_of_all w v lines e h = rw (sums_both lines)
      (fails_sooner writes rules w v v (full_text lines) (text_of_sums (last_sums (even_numbers lines))) e h)

  module _ (x y z : T) (w u v : O) (s t : Sums) (n : ℕ) (line : List ℕ) (whole : Bool) (long : 0 < length line)
      (so_far : SoFar reads writes x w s n y u) (read : GivesLine reads y line whole z) where
    lines_are : byte_lines (so_far.text ++ line) ≡ byte_lines so_far.text ++ line_text line ∷ []
    lines_are = lines_more so_far.text line so_far.whole (one_line y z line whole long read)

    evens_are : (a : ℕ) → line_number (line_text line) ≡ Some a
        → even_numbers (byte_lines (so_far.text ++ line)) ≡ even_numbers (byte_lines so_far.text) ++ if_even a
    evens_are a e = ap even_numbers lines_are ∙ evens_more (byte_lines so_far.text) (line_text line) a so_far.good e

    full_are : (a : ℕ) (added : List ℕ) → line_number (line_text line) ≡ Some a
        → ((l : List ℕ) → HoldsWindow s l → full_sums (l ++ if_even a) ≡ full_sums l ++ added)
        → full_text (byte_lines (so_far.text ++ line)) ≡ full_text (byte_lines so_far.text) ++ text_of_sums added
    full_are a added e step = ap (λ k. text_of_sums (full_sums k)) (evens_are a e)
        ∙ ap text_of_sums (step (even_numbers (byte_lines so_far.text)) so_far.holds)
        ∙ texts_both (full_sums (even_numbers (byte_lines so_far.text))) added

    good_more : (a : ℕ) → line_number (line_text line) ≡ Some a → AllNumbers (byte_lines (so_far.text ++ line))
    good_more a e = rw lines_are (numbers_more (byte_lines so_far.text) (line_text line) a so_far.good e)

    numbered_more : min (n + 1) (2 ^ 64 - 1) ≡ counted_lines (length (byte_lines (so_far.text ++ line)))
    numbered_more = rw lines_are (counted_line n (byte_lines so_far.text) (line_text line) so_far.numbered)

    wrote_more : (h : AddsLine writes line s u t v) → TakesWholeText writes w (full_text (byte_lines (so_far.text ++ line))) v
    wrote_more h = rw (full_are h.0 h.2 h.1 (λ l k. (h.4 l k).1))
        (text_more writes rules w u v (full_text (byte_lines so_far.text)) (text_of_sums h.2) so_far.wrote h.3)

    holds_more : (h : AddsLine writes line s u t v) → HoldsWindow t (even_numbers (byte_lines (so_far.text ++ line)))
    holds_more h = rw (evens_are h.0 h.1) (h.4 (even_numbers (byte_lines so_far.text)) so_far.holds).0

    -- One more line.
    pub added : whole ≡ true → AddsLine writes line s u t v → SoFar reads writes x w t (min (n + 1) (2 ^ 64 - 1)) z v
    added newline h =
        let told = rw newline at read in record {
          text = so_far.text ++ line;
          told = more_told x y z so_far.text line so_far.told told.0;
          whole = inr (so_far.text ++ told.1.0, rw told.1.2 (sym (append_assoc so_far.text told.1.0 (10 ∷ []))));
          good = good_more h.0 h.1;
          numbered = numbered_more;
          holds = holds_more h;
          wrote = wrote_more h;
        }

    -- The last line, which no newline ends.
    pub added_last : whole ≡ false → AddsLine writes line s u t v → AddsLines reads writes x w t z v
    added_last newline h =
        let told = rw newline at read in (
          so_far.text ++ line,
          last_told x y z so_far.text line so_far.told told.0,
          none_bad (byte_lines (so_far.text ++ line)) (good_more h.0 h.1),
          (wrote_more h, holds_more h),
        )

    bad_line : (cause : Cause) → line_number (line_text line) ≡ None → IsBadLine (line_text line) cause → t ≡ s → v ≡ u
        → EndsBadly reads writes (WroteFull reads writes t) (WroteSome reads writes) cause (min (n + 1) (2 ^ 64 - 1)) x w z v
    bad_line cause e bad f g =
        let told = rest_told x y z so_far.text line whole long so_far.told read in record {
          text = so_far.text;
          rest = told.0;
          read = told.1;
          whole = so_far.whole;
          why = (line, told.2, e, bad);
          first = none_bad (byte_lines so_far.text) so_far.good;
          numbered = counted_next n (length (byte_lines so_far.text)) so_far.numbered;
          written = rw (f, g) (so_far.wrote, so_far.holds);
        }

    overflow : (h : AddFails writes line s u Overflow t v)
        → EndsEarly reads writes (WroteFull reads writes t) (WroteSome reads writes) SumFails (min (n + 1) (2 ^ 64 - 1)) x w z v
    overflow h =
        let told = rest_told x y z so_far.text line whole long so_far.told read in record {
          text = so_far.text;
          rest = told.0;
          read = told.1;
          whole = so_far.whole;
          why = (line, told.2, h.0, h.1, h.2, h.3 (even_numbers (byte_lines so_far.text)) so_far.holds);
          first = none_bad (byte_lines so_far.text) so_far.good;
          numbered = counted_next n (length (byte_lines so_far.text)) so_far.numbered;
          written = rw h.4 so_far.wrote;
          front = λ more. text_front so_far.text more so_far.whole so_far.good;
        }

    unwritten : (error : Error) (a : ℕ) (added : List ℕ) → line_number (line_text line) ≡ Some a
        → FailsTaking writes u (text_of_sums added) error v
        → ((l : List ℕ) → HoldsWindow s l → full_sums (l ++ if_even a) ≡ full_sums l ++ added)
        → EndsUnwritten reads writes (WroteFull reads writes t) (WroteSome reads writes) error x w z v
    unwritten error a added e h step =
        let all = fails_more writes rules w u v (full_text (byte_lines so_far.text)) (text_of_sums added) error so_far.wrote h in
        let front : FailsTaking writes w (full_text (byte_lines (so_far.text ++ line))) error v = rw (full_are a added e step) all in
        let told = line_told x y z so_far.text line whole so_far.told read in
        (so_far.text ++ line, told.0, told.1, told.2, some_of_all w v (byte_lines (so_far.text ++ line)) error front)

    -- A line was not added.
    pub stop_adding : (e : Cause) → AddFails writes line s u e t v
        → EndsByCause reads writes (WroteFull reads writes t) (WroteSome reads writes) x w (min (n + 1) (2 ^ 64 - 1)) e z v
    stop_adding NotUtf8 h = bad_line NotUtf8 h.0 h.1 h.2 h.3
    stop_adding NotANumber h = bad_line NotANumber h.0 h.1 h.2 h.3
    stop_adding Overflow h = overflow h
    stop_adding Memory h = absurd h
    stop_adding (Input e) h = absurd h
    stop_adding (Output e) h = unwritten e h.0 h.2 h.1 h.3 h.4

  no_line : (y z : T) (line : List ℕ) (whole : Bool) → length line ≡ 0 → GivesLine reads y line whole z → GivesWholeText reads y [] z
  no_line y z [] true e h = let long = ap length h.1.2 ∙ length-append h.1.0 (10 ∷ []) in absurd (omega (arith, long))
  no_line y z [] false e h = h.0
  no_line y z (b ∷ line) whole e h = absurd (omega (arith, e))

  -- The end of the input behind whole lines.
  pub ended : (x y z : T) (w v : O) (s : Sums) (n : ℕ) (line : List ℕ) (whole : Bool) → length line ≡ 0
      → SoFar reads writes x w s n y v → GivesLine reads y line whole z → AddsLines reads writes x w s z v
  ended x y z w v s n line whole none so_far read = (
    so_far.text,
    rw (append-nil so_far.text) at (last_told x y z so_far.text [] so_far.told (no_line y z line whole none read)),
    none_bad (byte_lines so_far.text) so_far.good,
    (so_far.wrote, so_far.holds),
  )

  early : (Rest : List ℕ → List ReadMark → Type 0) (x y z : T) (w v : O) (s : Sums) (n : ℕ) (rest : List ReadMark)
      → (so_far : SoFar reads writes x w s n y v) → ToldStripped reads y rest z → Rest so_far.text rest
      → EndsEarly reads writes (WroteFull reads writes s) (WroteSome reads writes) Rest (min (n + 1) (2 ^ 64 - 1)) x w z v
  early Rest x y z w v s n rest so_far told why = record {
    text = so_far.text;
    rest = rest;
    read = told_follow laws x y z (bytes so_far.text) rest so_far.told told;
    whole = so_far.whole;
    why = why;
    first = none_bad (byte_lines so_far.text) so_far.good;
    numbered = counted_next n (length (byte_lines so_far.text)) so_far.numbered;
    written = so_far.wrote;
    front = λ more. text_front so_far.text more so_far.whole so_far.good;
  }

  -- A line was not read.
  pub stop_reading : (x y z : T) (w v : O) (s : Sums) (n : ℕ) (e : Error) (c : Cause) → SoFar reads writes x w s n y v
      → FailsWithin reads y e z → IsReading e c
      → EndsByCause reads writes (WroteFull reads writes s) (WroteSome reads writes) x w (min (n + 1) (2 ^ 64 - 1)) c z v
  stop_reading x y z w v s n e NotUtf8 so_far h k = absurd k
  stop_reading x y z w v s n e NotANumber so_far h k = absurd k
  stop_reading x y z w v s n e Overflow so_far h k = absurd k
  stop_reading x y z w v s n e (Output f) so_far h k = absurd k
  stop_reading x y z w v s n e Memory so_far (cut, without, inl told) k =
      early MemoryFails x y z w v s n (bytes cut ++ ReadMark.fault (error_kind e) ∷ []) so_far told (cut, without, inr (rw k refl))
  stop_reading x y z w v s n e Memory so_far (cut, without, inr told) k =
      early MemoryFails x y z w v s n (bytes cut) so_far told.0 (cut, without, inl refl)
  stop_reading x y z w v s n e (Input f) so_far (cut, without, inl told) k =
      early (InputFails f) x y z w v s n (bytes cut ++ ReadMark.fault (error_kind e) ∷ []) so_far told (cut, without, rw k.0 refl)
  stop_reading x y z w v s n e (Input f) so_far (cut, without, inr told) k = absurd (k.1 told.1)

module _ {T O : Type 0} (reads : Runs ReadMark T) (writes : Runs WriteMark O) (laws : MarkLaws reads) (rules : MarkLaws writes) (x y : T) (w u v : O) (s : Sums) where
  -- The last window is written behind the others.
  all_wrote : (lines : List (List ℕ)) → WroteFull reads writes s w lines u
      → ((l : List ℕ) → HoldsWindow s l → TakesFlushed writes u (text_of_sums (last_sums l)) v) → WroteAll reads writes w lines v
  all_wrote lines h k =
      let last = k (even_numbers lines) h.1 in (
        last.0,
        rw (sums_both reads writes laws rules lines)
            (text_more writes rules w u last.0 (full_text lines) (text_of_sums (last_sums (even_numbers lines))) h.0 last.1),
        last.2,
      )

  some_wrote_all : (lines : List (List ℕ)) (e : Error) → WroteFull reads writes s w lines u
      → ((l : List ℕ) → HoldsWindow s l → FailsTaking writes u (text_of_sums (last_sums l)) e v) → FailsTaking writes w (sums_text lines) e v
  some_wrote_all lines e h k = rw (sums_both reads writes laws rules lines)
      (fails_more writes rules w u v (full_text lines) (text_of_sums (last_sums (even_numbers lines))) e h.0 (k (even_numbers lines) h.1))

  -- All lines were added, and the last window was written.
  pub finish_whole : AddsLines reads writes x w s y u → ((l : List ℕ) → HoldsWindow s l → TakesFlushed writes u (text_of_sums (last_sums l)) v)
      → SumsWhole reads writes x w y v
  finish_whole h k = (h.0, h.1, h.2, all_wrote (byte_lines h.0) h.3 k)

  pub finish_whole_fails : (e : Cause) (number : ℕ) → AddsLines reads writes x w s y u
      → ((l : List ℕ) → HoldsWindow s l → FailsOutput writes u (text_of_sums (last_sums l)) e v)
      → EndsByCause reads writes (WroteAll reads writes) (WroteEarly reads writes) x w number e y v
  finish_whole_fails (Output e) number h k =
      (h.0, ReadMark.end ∷ [], h.1, inr refl, some_wrote_all (byte_lines h.0) e h.3 k)
  finish_whole_fails NotUtf8 number h k = absurd (k (even_numbers (byte_lines h.0)) h.3.1)
  finish_whole_fails NotANumber number h k = absurd (k (even_numbers (byte_lines h.0)) h.3.1)
  finish_whole_fails Overflow number h k = absurd (k (even_numbers (byte_lines h.0)) h.3.1)
  finish_whole_fails Memory number h k = absurd (k (even_numbers (byte_lines h.0)) h.3.1)
  finish_whole_fails (Input e) number h k = absurd (k (even_numbers (byte_lines h.0)) h.3.1)

  -- The lines before a bad one were added, and the last window was written.
  pub finish_bad : (c : Cause) (number : ℕ) → EndsBadly reads writes (WroteFull reads writes s) (WroteSome reads writes) c number x w y u
      → ((l : List ℕ) → HoldsWindow s l → TakesFlushed writes u (text_of_sums (last_sums l)) v)
      → EndsBadly reads writes (WroteAll reads writes) (WroteEarly reads writes) c number x w y v
  finish_bad c number h k = record {
    text = h.text;
    rest = h.rest;
    read = h.read;
    whole = h.whole;
    why = h.why;
    first = h.first;
    numbered = h.numbered;
    written = all_wrote (byte_lines h.text) h.written k;
  }

  pub finish_bad_fails : (c e : Cause) (n number : ℕ) → EndsBadly reads writes (WroteFull reads writes s) (WroteSome reads writes) c n x w y u
      → ((l : List ℕ) → HoldsWindow s l → FailsOutput writes u (text_of_sums (last_sums l)) e v)
      → EndsByCause reads writes (WroteAll reads writes) (WroteEarly reads writes) x w number e y v
  finish_bad_fails c (Output e) n number h k = (h.text, h.rest, h.read, inl h.whole, some_wrote_all (byte_lines h.text) e h.written k)
  finish_bad_fails c NotUtf8 n number h k = absurd (k (even_numbers (byte_lines h.text)) h.written.1)
  finish_bad_fails c NotANumber n number h k = absurd (k (even_numbers (byte_lines h.text)) h.written.1)
  finish_bad_fails c Overflow n number h k = absurd (k (even_numbers (byte_lines h.text)) h.written.1)
  finish_bad_fails c Memory n number h k = absurd (k (even_numbers (byte_lines h.text)) h.written.1)
  finish_bad_fails c (Input e) n number h k = absurd (k (even_numbers (byte_lines h.text)) h.written.1)

  -- The pipeline stopped early, and what was written was flushed.
  pub finish_early : (Rest : List ℕ → List ReadMark → Type 0) (number : ℕ)
      → EndsEarly reads writes (WroteFull reads writes s) (WroteSome reads writes) Rest number x w y u → TakesFlush writes u v
      → EndsEarly reads writes (WroteAll reads writes) (WroteEarly reads writes) Rest number x w y v
  finish_early Rest number h k = record {
    text = h.text;
    rest = h.rest;
    read = h.read;
    whole = h.whole;
    why = h.why;
    first = h.first;
    numbered = h.numbered;
    written = (u, h.written, k);
    front = h.front;
  }

  pub finish_early_fails : (Rest : List ℕ → List ReadMark → Type 0) (e : Cause) (n number : ℕ)
      → EndsEarly reads writes (WroteFull reads writes s) (WroteSome reads writes) Rest n x w y u → FailsOutput writes u [] e v
      → EndsByCause reads writes (WroteAll reads writes) (WroteEarly reads writes) x w number e y v
  finish_early_fails Rest (Output e) n number h k = (
    h.text,
    h.rest,
    h.read,
    inl h.whole,
    some_of_all reads writes laws rules w v (byte_lines h.text) e
        (flush_fails writes rules w u v (full_text (byte_lines h.text)) (Output e) h.written k),
  )
  finish_early_fails Rest NotUtf8 n number h k = absurd k
  finish_early_fails Rest NotANumber n number h k = absurd k
  finish_early_fails Rest Overflow n number h k = absurd k
  finish_early_fails Rest Memory n number h k = absurd k
  finish_early_fails Rest (Input e) n number h k = absurd k

  -- The output was ended at an error.
  pub closed : (c : Cause) (number : ℕ) → EndsByCause reads writes (WroteFull reads writes s) (WroteSome reads writes) x w number c y u
      → EndsOutput writes s c u v → EndsByCause reads writes (WroteAll reads writes) (WroteEarly reads writes) x w number c y v
  closed NotUtf8 number h k = finish_bad NotUtf8 number h k
  closed NotANumber number h k = finish_bad NotANumber number h k
  closed Overflow number h k = finish_early SumFails number h k
  closed Memory number h k = finish_early MemoryFails number h k
  closed (Input e) number h k = finish_early (InputFails e) number h k
  closed (Output e) number h k = rw k h

  -- It was not, since it failed.
  pub close_fails : (c e : Cause) (n number : ℕ) → EndsByCause reads writes (WroteFull reads writes s) (WroteSome reads writes) x w n c y u
      → EndFails writes s c u e v → EndsByCause reads writes (WroteAll reads writes) (WroteEarly reads writes) x w number e y v
  close_fails NotUtf8 e n number h f = finish_bad_fails NotUtf8 e n number h f
  close_fails NotANumber e n number h f = finish_bad_fails NotANumber e n number h f
  close_fails Overflow e n number h f = finish_early_fails SumFails e n number h f
  close_fails Memory e n number h f = finish_early_fails MemoryFails e n number h f
  close_fails (Input c) e n number h f = finish_early_fails (InputFails c) e n number h f
  close_fails (Output c) e n number h f = absurd f

-- What follows from a fact about an `Ok`, and about an `Err`.
pub on_ok : {A E P Q : Type 0} (r : Result A E) → (P → Q) → IfOk r (λ _. P) → IfOk r (λ _. Q)
on_ok (Ok x) f h = f h
on_ok (Err e) f h = h

pub on_error : {A E : Type 0} {P Q : E → Type 0} (r : Result A E) → ((e : E) → P e → Q e) → IfErr r P → IfErr r Q
on_error (Ok x) f h = h
on_error (Err e) f h = f e h

line_one : (sum : ℕ) → text_of_sums (sum ∷ []) ≡ sum_line sum
line_one sum = append-nil (sum_line sum)

-- A sum and its line are written.
module _ {O : Type 0} (writes : Runs WriteMark O) (rules : MarkLaws writes) (w u v : O) where
  pub line_written : (digits : List ℕ) (sum : ℕ) → digits ≡ decimal sum → TakesWholeText writes w digits u → TakesWholeText writes u (10 ∷ []) v
      → TakesWholeText writes w (sum_line sum) v
  line_written digits sum e h k = rw e at (text_more writes rules w u v digits (10 ∷ []) h k)

  pub line_fails : (digits : List ℕ) (sum : ℕ) (error : Error) → digits ≡ decimal sum → TakesWholeText writes w digits u
      → FailsTaking writes u (10 ∷ []) error v → FailsTaking writes w (sum_line sum) error v
  line_fails digits sum error e h k = rw e at (fails_more writes rules w u v digits (10 ∷ []) error h k)

  pub digits_fail : (digits : List ℕ) (sum : ℕ) (error : Error) → digits ≡ decimal sum → FailsTaking writes w digits error v
      → FailsTaking writes w (sum_line sum) error v
  digits_fail digits sum error e h = rw e at (fails_sooner writes rules w u v digits (10 ∷ []) error h)

-- The sum of the last window.
module _ {O : Type 0} (writes : Runs WriteMark O) (rules : MarkLaws writes) (w v : O) (o : Option ℕ) (ls : List ℕ) (is : option_to_list o ≡ ls) where
  pub last_unwritten : o ≡ None → TakesWholeText writes w (text_of_sums ls) w
  last_unwritten e = rw (sym is, e) ([], rules.rests w, tt, refl)

  pub last_written : (sum : ℕ) → o ≡ Some sum → TakesWholeText writes w (sum_line sum) v → TakesWholeText writes w (text_of_sums ls) v
  last_written sum e h = rw (sym is, e, line_one sum) h

  pub last_fails : (sum : ℕ) (error : Error) → o ≡ Some sum → FailsTaking writes w (sum_line sum) error v
      → FailsTaking writes w (text_of_sums ls) error v
  last_fails sum error e h = rw (sym is, e, line_one sum) h

-- A line and its number are added.
module _ {O : Type 0} (writes : Runs WriteMark O) (rules : MarkLaws writes) (line text : List ℕ) (s t : Sums) (w v : O) (x : ℕ)
    (is : text ≡ line_text line) (e : line_number text ≡ Some x) where
  number_is : line_number (line_text line) ≡ Some x
  number_is = rw is at e

  module _ (o : Option ℕ)
      (step : (l : List ℕ) → HoldsWindow s l → HoldsWindow t (l ++ if_even x) × (full_sums (l ++ if_even x) ≡ full_sums l ++ option_to_list o)) where
    pub add_none : o ≡ None → AddsLine writes line s w t w
    add_none f = (x, number_is, [], ([], rules.rests w, tt, refl), λ l h. rw f at (step l h))

    pub add_some : (sum : ℕ) → o ≡ Some sum → TakesWholeText writes w (sum_line sum) v → AddsLine writes line s w t v
    add_some sum f h = (x, number_is, sum ∷ [], rw (line_one sum) h, λ l k. rw f at (step l k))

    pub add_unwritten : (sum : ℕ) (error : Error) → o ≡ Some sum → FailsTaking writes w (sum_line sum) error v
        → AddFails writes line s w (Output error) t v
    add_unwritten sum error f h = (x, number_is, sum ∷ [], rw (line_one sum) h, λ l k. (rw f at (step l k)).1)

  pub add_large : (cause : Cause) → (cause ≡ Overflow) × (if_even x ≡ x ∷ []) × ((l : List ℕ) → HoldsWindow s l → SumPasses l x)
      → AddFails writes line s w cause t w
  add_large cause h = rw h.0 (x, number_is, h.1, h.2, refl)
