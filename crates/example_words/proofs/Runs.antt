-- The steps of reading and writing, and how a run ends.
use Rattle.std.proofs.Common.{◌≡◌, ℕ, ◌+◌, ◌<◌, ◌∙◌, Bool, true, false, inl, inr, List, [], ◌∷◌, ◌++◌, ap, append-nil}
use Rattle.std.proofs.Common.{append_assoc, arith, length, length-append, map, min, refl, rules, sym, ◌-◌, ◌^◌}
use Rattle.std.proofs.lemmas.Grind.{common_steps, flat_map-append}
use Rattle.std.proofs.lemmas.List.{map-append}
use Rattle.std.proofs.lemmas.List.Elements.{All-nil}
use Rattle.std.proofs.lemmas.List.Sums.{sum_by-append}
use Rattle.std.specs.Cmp.Lexicographic.{slice_cmp}
use Rattle.std.specs.List.{All}
use Rattle.std.specs.List.Sorted.{IsStrictlySortedBy}
use Rattle.std.specs.Ordering.{nat_cmp}
use Rattle.std.specs.Prelude.{Err, IfErr, Ok, OnOk, Result, count_by, decimal, nat_eq}
use Rattle.futures_lite.specs.Laws.Told.{taken_both, told_follow, told_none}
use Rattle.futures_lite.specs.Marks.{ReadMark, WriteMark, bytes}
use Rattle.futures_lite.specs.Own.{MarkLaws, Runs}
use Rattle.futures_lite.specs.Readers.{ToldStripped, Without}
use Rattle.example_words.specs.Laws.{counts_append, counts_none, shards_make_whole, total_none}
use Rattle.example_words.specs.Records.{Counted, TableSoFar, IsTable, counted_records, held_record, pending, record_line, record_lines, total_count}
use Rattle.example_words.specs.Runs.{CountStops, LineUnread, TextUnwritten, HasCounted, MapsText, ReadsWholeText, ReadsOneLine}
use Rattle.example_words.specs.Runs.{ReduceStops, Reduces, StopsAdding, StopsCounting, SumsBefore, WritesFlushed, WritesText}
use Rattle.example_words.proofs.Refusals.{refused_by}
use Rattle.example_words.proofs.Taken.{fails_later, fails_sooner, writes_both}
use Rattle.example_words.specs.Refusals.{RefusedLine, RefusedWords}
use Rattle.example_words.specs.Words.{WholeLines, occurrences}
use Rattle.example_words.specs.declared.counts.Counts.{Counts}
use Rattle.example_words.specs.declared.fault.LineError.{LineError}
use Rattle.example_words.specs.declared.fault.WordsError.{WordsError}
use Rattle.example_words.specs.declared.fault.WordsError.TheVariants.{Input, Line, Memory, Output}
use Rattle.example_words.specs.declared.sum.Sum.{Sum}

module _ {T : Type 0} (reads : Runs ReadMark T) (laws : MarkLaws reads) where
  more_told : (x y z : T) (text line : List ℕ) → ToldStripped reads x (bytes text) y → ToldStripped reads y (bytes line) z
      → ToldStripped reads x (bytes (text ++ line)) z
  more_told x y z text line h k = rw (map-append ReadMark.byte text line) (told_follow laws x y z (bytes text) (bytes line) h k)

  last_told : (x y z : T) (text line : List ℕ) → ToldStripped reads x (bytes text) y → ReadsWholeText reads y line z
      → ReadsWholeText reads x (text ++ line) z
  last_told x y z text line h k =
      rw (map-append ReadMark.byte text line, append_assoc (bytes text) (bytes line) (ReadMark.end ∷ []))
      (told_follow laws x y z (bytes text) (bytes line ++ ReadMark.end ∷ []) h k)

abbrev pub newlines : List ℕ → ℕ
newlines = count_by (nat_eq 10)

newlines_none : (front : List ℕ) → Without 10 front → newlines front ≡ 0
newlines_none [] h = refl
newlines_none (b ∷ front) h = at (newlines_none front h.1) (nat_eq 10 b) refl
  where
    at : newlines front ≡ 0 → (t : Bool) → nat_eq 10 b ≡ t → newlines (b ∷ front) ≡ 0
    at rest true is = absurd (search rules)
    at rest false is = search rules

newlines_more : (text front : List ℕ) → Without 10 front → newlines (text ++ (front ++ 10 ∷ [])) ≡ newlines text + 1
newlines_more text front h =
    let both : newlines (text ++ (front ++ 10 ∷ [])) ≡ newlines text + newlines (front ++ 10 ∷ []) = sum_by-append _ text (front ++ 10 ∷ []) in
    let last : newlines (front ++ 10 ∷ []) ≡ newlines front + 1 = sum_by-append _ front (10 ∷ []) in
    both ∙ ap (λ k. newlines text + k) (last ∙ ap (λ k. k + 1) (newlines_none front h))

next_line : (n a b : ℕ) → n ≡ min a (2 ^ 64 - 1) → b ≡ a + 1 → min (n + 1) (2 ^ 64 - 1) ≡ min b (2 ^ 64 - 1)
next_line n a b h more = omega (arith, h, more)

-- Whole lines were read, and their words are what was counted.
pub record CountsSoFar {T : Type 0} (reads : Runs ReadMark T) (x : T) (cs : Counts) (n : ℕ) (y : T) : Type 0 where
  pub text : List ℕ
  pub told : ToldStripped reads x (bytes text) y
  pub lines : WholeLines text
  pub numbered : n ≡ min (newlines text) (2 ^ 64 - 1)
  pub positive : All (λ r. 0 < r.1) (counted_records cs)
  pub right : (word : List ℕ) → total_count (counted_records cs) word ≡ occurrences text word

whole_lines : (text line front : List ℕ) → line ≡ front ++ 10 ∷ [] → WholeLines (text ++ line)
whole_lines text line front e = inr (text ++ front, rw e (sym (append_assoc text front (10 ∷ []))))

module _ {T : Type 0} (reads : Runs ReadMark T) (laws : MarkLaws reads) where
  pub counts_start : (x : T) (cs : Counts) → counted_records cs ≡ [] → CountsSoFar reads x cs 0 x
  counts_start x cs none = record {
    text = [];
    told = told_none laws x;
    lines = inl refl;
    numbered = refl;
    positive = rw none (All-nil (λ r. 0 < r.1));
    right = λ word. rw none (total_none word ∙ sym (counts_none word));
  }

  module _ (x y z : T) (cs ds : Counts) (n : ℕ) (line : List ℕ)
      (more : (w : List ℕ) → total_count (counted_records ds) w ≡ total_count (counted_records cs) w + occurrences line w)
      (keeps : All (λ r. 0 < r.1) (counted_records cs) → All (λ r. 0 < r.1) (counted_records ds)) (so_far : CountsSoFar reads x cs n y) where
    sums : (w : List ℕ) → total_count (counted_records ds) w ≡ occurrences (so_far.text ++ line) w
    sums w = omega (arith, more w, so_far.right w, counts_append so_far.text line w so_far.lines)

    -- One more line.
    pub counts_line : ReadsOneLine reads y line true z → CountsSoFar reads x ds (min (n + 1) (2 ^ 64 - 1)) z
    counts_line read = record {
      text = so_far.text ++ line;
      told = more_told reads laws x y z so_far.text line so_far.told read.0;
      lines = whole_lines so_far.text line read.1.0 read.1.2;
      numbered = next_line n (newlines so_far.text) (newlines (so_far.text ++ line)) so_far.numbered
          (rw read.1.2 (newlines_more so_far.text read.1.0 read.1.1));
      positive = keeps so_far.positive;
      right = sums;
    }

    -- The last line, which may be empty.
    pub counts_last : ReadsOneLine reads y line false z → HasCounted reads x ds z
    counts_last read = record {
      text = so_far.text ++ line;
      read = last_told reads laws x y z so_far.text line so_far.told read.0;
      positive = keeps so_far.positive;
      right = sums;
    }

  -- A line is refused.
  pub counts_stop : (x y z : T) (cs : Counts) (n : ℕ) (line : List ℕ) (whole : Bool) (e : LineError) → CountsSoFar reads x cs n y
      → ReadsOneLine reads y line whole z → RefusedWords (total_count (counted_records cs)) line e
      → StopsCounting reads x (min (n + 1) (2 ^ 64 - 1)) e z
  counts_stop x y z cs n line whole e so_far read refused = record {
    text = so_far.text;
    line = line;
    whole = whole;
    between = y;
    before = so_far.told;
    lines = so_far.lines;
    read = read;
    numbered = omega (arith, so_far.numbered);
    refused = refused_by (total_count (counted_records cs)) (occurrences so_far.text) line so_far.right e refused;
  }

  -- A line was not read.
  pub counts_unread : (x y z : T) (cs : Counts) (n : ℕ) (e : WordsError) → CountsSoFar reads x cs n y → LineUnread reads y e z
      → CountStops reads x e z
  counts_unread x y z cs n (Input e) so_far (rest, told, leaves) =
      (so_far.text, rest, told_follow laws x y z (bytes so_far.text) rest so_far.told told, so_far.lines, leaves)
  counts_unread x y z cs n Memory so_far (rest, told, leaves) =
      (so_far.text, rest, told_follow laws x y z (bytes so_far.text) rest so_far.told told, so_far.lines, leaves)
  counts_unread x y z cs n (Output e) so_far (rest, told, leaves) = absurd leaves
  counts_unread x y z cs n (Line number e) so_far (rest, told, leaves) = absurd leaves

  -- The text of the counts was written.
  pub mapped : {O : Type 0} (writes : Runs WriteMark O) (x y : T) (w v : O) (cs : Counts) (text : List ℕ) → HasCounted reads x cs y
      → IsStrictlySortedBy (slice_cmp nat_cmp) (map (λ r. r.0) (counted_records cs)) → text ≡ record_lines (counted_records cs)
      → WritesFlushed writes w text v → MapsText reads writes x w y v
  mapped writes x y w v cs text has sorted is written = record {
    text = has.text;
    table = counted_records cs;
    read = has.read;
    is_table = record { sorted = sorted; positive = has.positive; counted = has.right };
    written = rw is at written;
  }

module _ {O : Type 0} (writes : Runs WriteMark O) (laws : MarkLaws writes) where
  more_wrote : (w u v : O) (p q : List ℕ) → WritesText writes w p u → WritesText writes u q v → WritesText writes w (p ++ q) v
  more_wrote w u v p q h k = (
    h.0 ++ k.0,
    laws.follows w u v h.0 k.0 h.1 k.1,
    writes_both h.0 k.0 h.2 k.2,
    rw (taken_both h.0 k.0, h.3, k.3) refl,
  )

  last_wrote : (w u v : O) (p q : List ℕ) → WritesText writes w p u → WritesFlushed writes u q v → WritesFlushed writes w (p ++ q) v
  last_wrote w u v p q h k = record {
    between = k.between;
    flush = k.flush;
    wrote = more_wrote w u k.between p q h k.wrote;
    flushed = k.flushed;
    none = k.none;
    ends = k.ends;
  }

lines_both : (xs ys : List Counted) → record_lines (xs ++ ys) ≡ record_lines xs ++ record_lines ys
lines_both xs ys = flat_map-append record_line xs ys

lines_more : (xs : List Counted) (r : Counted) → record_lines (xs ++ r ∷ []) ≡ record_lines xs ++ record_line r
lines_more xs r = lines_both xs (r ∷ []) ∙ ap (λ k. record_lines xs ++ k) (append-nil (record_line r))

without_last : (xs : List ℕ) → Without 10 (xs ++ 10 ∷ []) → ⊥
without_last [] h = h.0 refl
without_last (x ∷ xs) h = without_last xs h.1

line_ends : (r : Counted) → record_line r ≡ (r.0 ++ 9 ∷ decimal r.1) ++ 10 ∷ []
line_ends r = grind (arith, common_steps)

no_newline : (front : List ℕ) → [] ≡ front ++ 10 ∷ [] → ⊥
no_newline front h = let long = ap length h ∙ length-append front (10 ∷ []) in omega (arith, long)

empty_table : IsTable (total_count []) []
unfolding IsStrictlySortedBy
empty_table = record { sorted = tt; positive = All-nil (λ r. 0 < r.1); counted = λ word. refl }

-- What follows from a fact about an `Ok`.
pub on_ok : {A E P Q : Type 0} (r : Result A E) → (P → Q) → OnOk r P → OnOk r Q
on_ok (Ok x) f h = f h
on_ok (Err e) f h = tt

-- What follows from a fact about an error.
pub on_error : {A E : Type 0} {P Q : E → Type 0} (r : Result A E) → ((e : E) → P e → Q e) → IfErr r P → IfErr r Q
on_error (Ok x) f h = h
on_error (Err e) f h = f e h

-- Records were read, and the lines of those whose sums are known were written.
pub record SumsSoFar {T O : Type 0} (reads : Runs ReadMark T) (writes : Runs WriteMark O) (x : T) (w : O) (s : Sum) (n : ℕ) (y : T) (v : O)
    : Type 0 where
  pub records : List Counted
  pub done : List Counted
  pub told : ToldStripped reads x (bytes (record_lines records)) y
  pub holds : TableSoFar done s.word.items s.count records
  pub numbered : n ≡ min (length records) (2 ^ 64 - 1)
  pub wrote : WritesText writes w (record_lines done) v

module _ {T O : Type 0} (reads : Runs ReadMark T) (writes : Runs WriteMark O) (laws : MarkLaws reads) (rules : MarkLaws writes) where
  pub sums_start : (x : T) (w : O) (s : Sum) → pending s ≡ [] → SumsSoFar reads writes x w s 0 x w
  sums_start x w s none = record {
    records = [];
    done = [];
    told = told_none laws x;
    holds = (rw none empty_table, λ e. refl);
    numbered = refl;
    wrote = ([], rules.rests w, tt, refl);
  }

  line_told : (y z : T) (line : List ℕ) (r : Counted) (whole : Bool) → line ≡ record_line r → ReadsOneLine reads y line whole z
      → ToldStripped reads y (bytes (record_line r)) z
  line_told y z line r true e read = rw e at read.0
  line_told y z line r false e read = absurd (without_last (r.0 ++ 9 ∷ decimal r.1) (rw (e, line_ends r) at read.1))

  -- One more record.
  pub sums_line : (x y z : T) (w u v : O) (s t : Sum) (n : ℕ) (line text : List ℕ) (whole : Bool) (r : Counted) (more : List Counted)
      → line ≡ record_line r → text ≡ record_lines more
      → ((done read : List Counted) → TableSoFar done s.word.items s.count read → TableSoFar (done ++ more) t.word.items t.count (read ++ r ∷ []))
      → SumsSoFar reads writes x w s n y u → ReadsOneLine reads y line whole z → WritesText writes u text v
      → SumsSoFar reads writes x w t (min (n + 1) (2 ^ 64 - 1)) z v
  sums_line x y z w u v s t n line text whole r more e f step so_far read wrote = record {
    records = so_far.records ++ r ∷ [];
    done = so_far.done ++ more;
    told = rw (lines_more so_far.records r)
        (more_told reads laws x y z (record_lines so_far.records) (record_line r) so_far.told (line_told y z line r whole e read));
    holds = step so_far.done so_far.records so_far.holds;
    numbered = omega (arith, so_far.numbered, length-append so_far.records (r ∷ []));
    wrote = rw (lines_both so_far.done more)
        (more_wrote writes rules w u v (record_lines so_far.done) (record_lines more) so_far.wrote (rw f at wrote));
  }

  -- What was read and written before `rest` came.
  abbrev sums_rest : (x y z : T) (w u : O) (s : Sum) (n : ℕ) (rest : List ReadMark) → SumsSoFar reads writes x w s n y u
      → ToldStripped reads y rest z → SumsBefore reads writes x w rest z u
  sums_rest x y z w u s n rest so_far told = record {
    records = so_far.records;
    done = so_far.done;
    word = s.word.items;
    count = s.count;
    read = told_follow laws x y z (bytes (record_lines so_far.records)) rest so_far.told told;
    holds = so_far.holds;
    wrote = so_far.wrote;
  }

  -- A line is refused.
  pub sums_stop : (x y z : T) (w u : O) (s : Sum) (n : ℕ) (line : List ℕ) (whole : Bool) (e : LineError) → SumsSoFar reads writes x w s n y u
      → ReadsOneLine reads y line whole z → RefusedLine s.word.items s.count line e
      → StopsAdding reads writes x w (min (n + 1) (2 ^ 64 - 1)) e z u
  sums_stop x y z w u s n line whole e so_far read refused = record {
    line = line;
    whole = whole;
    between = y;
    before = sums_rest x y y w u s n [] so_far (told_none laws y);
    read = read;
    numbered = omega (arith, so_far.numbered);
    refused = refused;
  }

  -- A line was not read.
  pub sums_unread : (x y z : T) (w u : O) (s : Sum) (n : ℕ) (e : WordsError) → SumsSoFar reads writes x w s n y u → LineUnread reads y e z
      → ReduceStops reads writes x w e z u
  sums_unread x y z w u s n (Input e) so_far (rest, told, leaves) = (rest, sums_rest x y z w u s n rest so_far told, inl leaves)
  sums_unread x y z w u s n Memory so_far (rest, told, leaves) = (rest, sums_rest x y z w u s n rest so_far told, inl leaves)
  sums_unread x y z w u s n (Output e) so_far (rest, told, leaves) = absurd leaves
  sums_unread x y z w u s n (Line number e) so_far (rest, told, leaves) = absurd leaves

  end_told : (y z : T) (line : List ℕ) (whole : Bool) → length line ≡ 0 → ReadsOneLine reads y line whole z → ReadsWholeText reads y [] z
  end_told y z [] true e read = absurd (no_newline read.1.0 read.1.2)
  end_told y z [] false e read = read.0
  end_told y z (b ∷ line) whole e read = absurd (omega arith)

  -- The end of the input.
  pub sums_end : (x y z : T) (w u v : O) (s : Sum) (n : ℕ) (line text : List ℕ) (whole : Bool) → length line ≡ 0 → text ≡ record_lines (pending s)
      → SumsSoFar reads writes x w s n y u → ReadsOneLine reads y line whole z → WritesFlushed writes u text v → Reduces reads writes x w z v
  sums_end x y z w u v s n line text whole e f so_far read written = record {
    records = so_far.records;
    table = so_far.done ++ pending s;
    read = rw (append-nil (record_lines so_far.records)) at
        (last_told reads laws x y z (record_lines so_far.records) [] so_far.told (end_told y z line whole e read));
    is_table = so_far.holds.0;
    written = rw (lines_both so_far.done (pending s))
        (last_wrote writes rules w u v (record_lines so_far.done) (record_lines (pending s)) so_far.wrote (rw f at written));
    whole = λ shards cut merged. shards_make_whole shards so_far.records (so_far.done ++ pending s) cut merged so_far.holds.0;
  }

  abbrev end_follows : (x y z : T) (w u : O) (s : Sum) (n : ℕ) (line : List ℕ) (whole : Bool) → length line ≡ 0 → SumsSoFar reads writes x w s n y u
      → ReadsOneLine reads y line whole z → SumsBefore reads writes x w (ReadMark.end ∷ []) z u
  end_follows x y z w u s n line whole e so_far read =
      sums_rest x y z w u s n (ReadMark.end ∷ []) so_far (end_told y z line whole e read)

  -- Memory for the last line was refused.
  pub sums_unmade : (x y z : T) (w u : O) (s : Sum) (n : ℕ) (line : List ℕ) (whole : Bool) → length line ≡ 0 → SumsSoFar reads writes x w s n y u
      → ReadsOneLine reads y line whole z → ReduceStops reads writes x w Memory z u
  sums_unmade x y z w u s n line whole e so_far read =
      (ReadMark.end ∷ [], end_follows x y z w u s n line whole e so_far read, inr (refl, refl))

  -- The output failed with the last line.
  pub last_unwritten : (x y z : T) (w u v : O) (s : Sum) (n : ℕ) (line text : List ℕ) (whole : Bool) (e : WordsError) → length line ≡ 0
      → text ≡ record_lines (pending s) → SumsSoFar reads writes x w s n y u → ReadsOneLine reads y line whole z
      → TextUnwritten writes u text e v → ReduceStops reads writes x w e z v
  last_unwritten x y z w u v s n line text whole (Output e) none f so_far read failed =
      let ended = end_follows x y z w u s n line whole none so_far read in (
        so_far.records,
        so_far.done ++ pending s,
        ReadMark.end ∷ [],
        ended.read,
        inr refl,
        so_far.holds.0,
        rw (lines_both so_far.done (pending s))
            (fails_later writes rules w u v (record_lines so_far.done) (record_lines (pending s)) e so_far.wrote (rw f at failed)),
      )
  last_unwritten x y z w u v s n line text whole (Input e) none f so_far read failed = absurd failed
  last_unwritten x y z w u v s n line text whole Memory none f so_far read failed = absurd failed
  last_unwritten x y z w u v s n line text whole (Line number e) none f so_far read failed = absurd failed

  -- The output failed with the lines that a record ends.
  pub line_unwritten : (x y z : T) (w u v : O) (s t : Sum) (n : ℕ) (line text : List ℕ) (whole : Bool) (r : Counted) (more : List Counted)
      (e : WordsError) → line ≡ record_line r → text ≡ record_lines more
      → ((done read : List Counted) → TableSoFar done s.word.items s.count read → TableSoFar (done ++ more) t.word.items t.count (read ++ r ∷ []))
      → SumsSoFar reads writes x w s n y u → ReadsOneLine reads y line whole z → TextUnwritten writes u text e v
      → ReduceStops reads writes x w e z v
  line_unwritten x y z w u v s t n line text whole r more (Output e) one f step so_far read failed =
      let told : ToldStripped reads x (bytes (record_lines (so_far.records ++ r ∷ []))) z = rw (lines_more so_far.records r)
      (more_told reads laws x y z (record_lines so_far.records) (record_line r) so_far.told (line_told y z line r whole one read)) in
      let wrote : TextUnwritten writes w (record_lines (so_far.done ++ more)) (Output e) v = rw (lines_both so_far.done more)
      (fails_later writes rules w u v (record_lines so_far.done) (record_lines more) e so_far.wrote (rw f at failed)) in (
        so_far.records ++ r ∷ [],
        (so_far.done ++ more) ++ held_record t.word.items t.count,
        [],
        rw (append-nil (bytes (record_lines (so_far.records ++ r ∷ [])))) told,
        inl refl,
        (step so_far.done so_far.records so_far.holds).0,
        rw (lines_both (so_far.done ++ more) (held_record t.word.items t.count))
            (fails_sooner writes w v (record_lines (so_far.done ++ more)) (record_lines (held_record t.word.items t.count)) e wrote),
      )
  line_unwritten x y z w u v s t n line text whole r more (Input e) one f step so_far read failed = absurd failed
  line_unwritten x y z w u v s t n line text whole r more Memory one f step so_far read failed = absurd failed
  line_unwritten x y z w u v s t n line text whole r more (Line number k) one f step so_far read failed = absurd failed
