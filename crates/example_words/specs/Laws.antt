-- Laws of words, counts and tables.
use Rattle.std.proofs.Common.{◌≡◌, ap₂, ℕ, ◌+◌, ◌<◌, ◌-◌, ◌≤◌, ◌∙◌, None, Some, unwrap_or, inl, inr, Bool, true, false, cond, not, List, [], ◌∷◌, ◌++◌, ap, append-nil, append_assoc, arith, drop, flat_map, length, map, refl, rules, suc, sym, take}
use Rattle.std.proofs.lemmas.Cmp.{nat_list_cmp_total}
use Rattle.std.proofs.lemmas.Grind.{common_steps}
use Rattle.std.proofs.lemmas.List.Elements.{All-append, All-cons, All-from_recursion, All-nil, filter-append, recursion_from_All}
use Rattle.std.proofs.lemmas.List.{map-append, take_rest}
use Rattle.std.proofs.lemmas.List.Sorted.{sum_by-IsPermutation}
use Rattle.std.proofs.lemmas.List.Sums.{prefix_len-le-length, sum_by-append}
use Rattle.std.proofs.lemmas.Str.Ascii.{trim_ascii_start_is}
use Rattle.std.specs.Char.{is_ascii_whitespace}
use Rattle.std.specs.Cmp.Lexicographic.{slice_cmp}
use Rattle.std.specs.List.{All, AllByRecursion, AllZip, concat, filter, position, prefix_len}
use Rattle.std.specs.List.Sorted.{IsPermutation, IsStrictlySortedBy}
use Rattle.std.proofs.lemmas.Map.Text.{is_eq-slice_cmp}
use Rattle.std.proofs.lemmas.Slice.Eq.{bytes_eq-Decides}
use Rattle.std.specs.Ordering.{is_eq, nat_cmp, ordering_reverse}
use Rattle.std.specs.declared.cmp.Ordering.{Ordering}
use Rattle.std.specs.declared.cmp.Ordering.TheVariants.{Equal, Greater, Less}
use Rattle.std.specs.Prelude.{count_by, decimal, if◌then◌else◌, nat_lt}
use Rattle.std.specs.Str.{IsTrimAsciiStart, bytes_eq}
use Rattle.example_words.specs.Records.{Counted, TableSoFar, IsTable, MergesShards, held_record, record_line, total_count}
use Rattle.example_words.specs.Words.{CutAtLines, WholeLines, occurrences, longer_first, text_pieces, words}

longer_append : (b : ℕ) (xs ys : List (List ℕ)) → 0 < length xs → longer_first b (xs ++ ys) ≡ longer_first b xs ++ ys
longer_append b [] ys h = absurd (omega arith)
longer_append b (x ∷ xs) ys h = refl

longer_some : (b : ℕ) (xs : List (List ℕ)) → 0 < length (longer_first b xs)
longer_some b [] = omega arith
longer_some b (x ∷ xs) = omega arith

pieces_some : (text : List ℕ) → 0 < length (text_pieces text)
pieces_some [] = omega arith
pieces_some (b ∷ bs) = at (is_ascii_whitespace b)
  where
    at : (white : Bool) → 0 < length (cond white ([] ∷ text_pieces bs) (longer_first b (text_pieces bs)))
    at true = omega arith
    at false = longer_some b (text_pieces bs)

pieces_line : (front more : List ℕ) → text_pieces (front ++ 10 ∷ more) ≡ text_pieces front ++ text_pieces more
pieces_line [] more = refl
pieces_line (b ∷ bs) more = at (pieces_line bs more) (is_ascii_whitespace b)
  where
    at : text_pieces (bs ++ 10 ∷ more) ≡ text_pieces bs ++ text_pieces more → (white : Bool) → cond white ([] ∷ text_pieces (bs ++ 10 ∷ more)) (longer_first b (text_pieces (bs ++ 10 ∷ more)))
        ≡ cond white ([] ∷ text_pieces bs) (longer_first b (text_pieces bs)) ++ text_pieces more
    at rest true = ap (λ k. [] ∷ k) rest
    at rest false = ap (longer_first b) rest ∙ longer_append b (text_pieces bs) (text_pieces more) (pieces_some bs)

-- Whether a piece is not empty.
abbrev some : List ℕ → Bool
some piece = nat_lt 0 (length piece)

words_line : (front more : List ℕ) → filter some (text_pieces (front ++ 10 ∷ more)) ≡ filter some (text_pieces front) ++ filter some (text_pieces more)
words_line front more = ap (filter some) (pieces_line front more) ∙ filter-append some (text_pieces front) (text_pieces more)

-- The words of whole lines and then more text are the words of both, in order.
pub words_append : (lines more : List ℕ) → WholeLines lines → words (lines ++ more) ≡ words lines ++ words more
unfolding words
words_append lines more (inl e) = rw e refl
words_append lines more (inr (front, e)) =
    let whole : words (front ++ 10 ∷ []) ≡ filter some (text_pieces front) = words_line front [] ∙ append-nil _ in
    rw e (ap words (append_assoc front (10 ∷ []) more) ∙ words_line front more ∙ ap (λ ws. ws ++ words more) (sym whole))

-- So the counts of whole lines and then more text are the sums of the counts of both.
pub counts_append : (lines more word : List ℕ) → WholeLines lines
    → occurrences (lines ++ more) word ≡ occurrences lines word + occurrences more word
unfolding occurrences
counts_append lines more word h = ap (count_by (bytes_eq word)) (words_append lines more h) ∙ sum_by-append _ (words lines) (words more)

pub counts_none : (word : List ℕ) → occurrences [] word ≡ 0
unfolding occurrences words
counts_none word = refl

pub total_none : (word : List ℕ) → total_count [] word ≡ 0
unfolding total_count
total_none word = refl

pub total_append : (xs ys : List Counted) (word : List ℕ) → total_count (xs ++ ys) word ≡ total_count xs word + total_count ys word
unfolding total_count
total_append xs ys word = sum_by-append _ xs ys

pub total_one : (r : Counted) (word : List ℕ) → total_count (r ∷ []) word ≡ (if bytes_eq word r.0 then r.1 else 0)
unfolding total_count
total_one r word = omega arith

pub total_cons : (r : Counted) (rs : List Counted) (u : List ℕ) → total_count (r ∷ rs) u ≡ (if bytes_eq u r.0 then r.1 else 0) + total_count rs u
total_cons r rs u = total_append (r ∷ []) rs u ∙ ap (λ n. n + total_count rs u) (total_one r u)

total_moved : (xs ys : List Counted) (word : List ℕ) → IsPermutation xs ys → total_count ys word ≡ total_count xs word
unfolding total_count
total_moved xs ys word h = sum_by-IsPermutation _ xs ys h

-- The counts of a text are the sums of those in the tables of its shards.
pub shards_total : (shards : List (List ℕ)) (tables : List (List Counted)) → CutAtLines shards
    → AllZip (λ shard table. IsTable (occurrences shard) table) shards tables
    → (word : List ℕ) → total_count (flat_map (λ table. table) tables) word ≡ occurrences (concat shards) word
shards_total [] [] cut each word = total_none word ∙ sym (counts_none word)
shards_total [] (table ∷ tables) cut each word = absurd each
shards_total (shard ∷ shards) [] cut each word = absurd each
shards_total (shard ∷ []) (table ∷ []) cut each word =
    rw (append-nil table, append-nil shard) (each.0.counted word)
shards_total (shard ∷ []) (table ∷ next ∷ tables) cut each word = absurd each.1
shards_total (shard ∷ next ∷ shards) (table ∷ tables) cut each word =
    let rest = shards_total (next ∷ shards) tables cut.1 each.1 word in
    let here = each.0.counted word in
    omega (arith, rest, here, total_append table (flat_map (λ t. t) tables) word, counts_append shard (concat (next ∷ shards)) word cut.0)

-- The theorem of the shards: a table of records that were merged from tables of all shards of a text is the table of the text.
pub shards_make_whole : (shards : List (List ℕ)) (read out : List Counted) → CutAtLines shards → MergesShards shards read
    → IsTable (total_count read) out → IsTable (occurrences (concat shards)) out
shards_make_whole shards read out cut (tables, each, moved) table = record {
  sorted = table.sorted;
  positive = table.positive;
  counted = λ word. table.counted word ∙ total_moved (flat_map (λ t. t) tables) read word moved ∙ shards_total shards tables cut each word;
}

-- What is behind the first piece of a text.
behind : List ℕ → List (List ℕ)
behind [] = []
behind (b ∷ bs) = text_pieces bs

-- Whether a byte is not white space.
abbrev black : ℕ → Bool
black b = not (is_ascii_whitespace b)

one_more : (n : ℕ) → 1 + n ≡ suc n
one_more n = omega arith

trimmed_words : (text : List ℕ) → words text ≡ words (drop (prefix_len is_ascii_whitespace text) text)
unfolding words
trimmed_words [] = refl
trimmed_words (b ∷ bs) = at (trimmed_words bs) (is_ascii_whitespace b) refl
  where
    at : words bs ≡ words (drop (prefix_len is_ascii_whitespace bs) bs) → (white : Bool) → is_ascii_whitespace b ≡ white
        → words (b ∷ bs) ≡ words (drop (prefix_len is_ascii_whitespace (b ∷ bs)) (b ∷ bs))
    at rest true e = rw (e, one_more (prefix_len is_ascii_whitespace bs)) rest
    at rest false e =
        let same : drop (prefix_len is_ascii_whitespace (b ∷ bs)) (b ∷ bs) ≡ b ∷ bs = rw e refl in ap words (sym same)

trimmed_black : (text : List ℕ) → 0 < length (drop (prefix_len is_ascii_whitespace text) text)
    → 0 < prefix_len black (drop (prefix_len is_ascii_whitespace text) text)
trimmed_black [] h = absurd (omega arith)
trimmed_black (b ∷ bs) h = at (trimmed_black bs) (is_ascii_whitespace b) refl h
  where
    at : (0 < length (drop (prefix_len is_ascii_whitespace bs) bs) → 0 < prefix_len black (drop (prefix_len is_ascii_whitespace bs) bs))
        → (white : Bool) → is_ascii_whitespace b ≡ white
        → 0 < length (drop (prefix_len is_ascii_whitespace (b ∷ bs)) (b ∷ bs))
        → 0 < prefix_len black (drop (prefix_len is_ascii_whitespace (b ∷ bs)) (b ∷ bs))
    at rest true e h =
        let go : (0 < length (drop (prefix_len is_ascii_whitespace (b ∷ bs)) (b ∷ bs))
        → 0 < prefix_len black (drop (prefix_len is_ascii_whitespace (b ∷ bs)) (b ∷ bs)))
        = rw (e, one_more (prefix_len is_ascii_whitespace bs)) rest in
        go h
    at rest false e h =
        let same : drop (prefix_len is_ascii_whitespace (b ∷ bs)) (b ∷ bs) ≡ b ∷ bs = rw e refl in rw same (rw e (omega arith))

pieces_cut : (text : List ℕ) → text_pieces text ≡ take (prefix_len black text) text ∷ behind (drop (prefix_len black text) text)
unfolding behind
pieces_cut [] = refl
pieces_cut (b ∷ bs) = at (pieces_cut bs) (is_ascii_whitespace b) refl
  where
    at : text_pieces bs ≡ take (prefix_len black bs) bs ∷ behind (drop (prefix_len black bs) bs) → (white : Bool) → is_ascii_whitespace b ≡ white
        → text_pieces (b ∷ bs) ≡ take (prefix_len black (b ∷ bs)) (b ∷ bs) ∷ behind (drop (prefix_len black (b ∷ bs)) (b ∷ bs))
    at rest true e = rw e refl
    at rest false e = rw (e, one_more (prefix_len black bs)) (ap (longer_first b) rest)

behind_words : (text : List ℕ) → filter some (behind (drop (prefix_len black text) text)) ≡ words (drop (prefix_len black text) text)
unfolding behind words
behind_words [] = refl
behind_words (b ∷ bs) = at (behind_words bs) (is_ascii_whitespace b) refl
  where
    at : filter some (behind (drop (prefix_len black bs) bs)) ≡ words (drop (prefix_len black bs) bs) → (white : Bool) → is_ascii_whitespace b ≡ white
        → filter some (behind (drop (prefix_len black (b ∷ bs)) (b ∷ bs))) ≡ words (drop (prefix_len black (b ∷ bs)) (b ∷ bs))
    at rest true e =
        let same : drop (prefix_len black (b ∷ bs)) (b ∷ bs) ≡ b ∷ bs = rw e refl in rw same (rw e refl)
    at rest false e = rw (e, one_more (prefix_len black bs)) rest

kept : (piece : List ℕ) (more : List (List ℕ)) → 0 < length piece → filter some (piece ∷ more) ≡ piece ∷ filter some more
kept piece more h = grind arith

taken_some : (text : List ℕ) → 0 < prefix_len black text → 0 < length (take (prefix_len black text) text)
taken_some [] h = absurd (omega arith)
taken_some (b ∷ bs) h = grind (arith, common_steps)

words_cut : (text : List ℕ) → 0 < prefix_len black text
    → words text ≡ take (prefix_len black text) text ∷ words (drop (prefix_len black text) text)
unfolding words
words_cut text h =
    ap (filter some) (pieces_cut text) ∙ kept (take (prefix_len black text) text) (behind (drop (prefix_len black text) text)) (taken_some text h)
    ∙ ap (λ ws. take (prefix_len black text) text ∷ ws) (behind_words text)

-- A text of white space alone has no words.
pub no_word : (text r : List ℕ) → IsTrimAsciiStart text r → length r ≡ 0 → words text ≡ []
unfolding words
no_word text [] h none = trimmed_words text ∙ ap words (sym (trim_ascii_start_is text [] h))
no_word text (b ∷ r) h none = absurd (omega arith)

black_fits : (text : List ℕ) → prefix_len black text ≤ length text
black_fits text = prefix_len-le-length black text

white_or_end : (text : List ℕ) → unwrap_or (position is_ascii_whitespace text) (length text) ≡ prefix_len black text
white_or_end text = at (nat_lt (prefix_len black text) (length text)) refl
  where
    at : (b : Bool) → nat_lt (prefix_len black text) (length text) ≡ b
        → unwrap_or (cond b (Some (prefix_len black text)) None) (length text) ≡ prefix_len black text
    at true e = refl
    at false e = grind (arith, black_fits)

-- The first word of a text is what comes before the first white space, once the white space at the start is left out.
pub next_words : (text r : List ℕ) (end : ℕ) → IsTrimAsciiStart text r → 0 < length r
    → end ≡ unwrap_or (position is_ascii_whitespace r) (length r)
    → (words text ≡ take end r ∷ words (take (length r - end) (drop end r)))
    × (length (take (length r - end) (drop end r)) < length text)
next_words text r end h some_left at =
    let start : r ≡ drop (prefix_len is_ascii_whitespace text) text = trim_ascii_start_is text r h in
    let is : end ≡ prefix_len black r = at ∙ white_or_end r in
    let long : 0 < prefix_len black r = rw start (trimmed_black text (rw (sym start) some_left)) in
    let shorter : length r ≤ length text = grind (arith, common_steps, ap length start) in
    rw (take_rest r end, is) (trimmed_words text ∙ ap words (sym start) ∙ words_cut r long, grind (arith, common_steps))

one_piece : (word w : List ℕ) → count_by (bytes_eq w) (word ∷ []) ≡ (if bytes_eq w word then 1 else 0)
one_piece word w = omega arith

-- The counts of a text are those of its first word and of what is behind it.
pub counts_next : (text word rest w : List ℕ) → words text ≡ word ∷ words rest
    → occurrences text w ≡ (if bytes_eq w word then 1 else 0) + occurrences rest w
unfolding occurrences
counts_next text word rest w h =
    ap (count_by (bytes_eq w)) h ∙ sum_by-append _ (word ∷ []) (words rest)
    ∙ ap (λ n. n + count_by (bytes_eq w) (words rest)) (one_piece word w)

pub counts_no : (text w : List ℕ) → words text ≡ [] → occurrences text w ≡ 0
unfolding occurrences
counts_no text w h = ap (count_by (bytes_eq w)) h

-- Tables: one more record of the last word, or of a word behind it.
held_is : (word : List ℕ) (n : ℕ) → 0 < n → held_record word n ≡ (word, n) ∷ []
held_is word n h = search rules

all_more : {X : Type 0} (P : X → Type 0) (xs : List X) (x : X) → AllByRecursion P xs → P x → AllByRecursion P (xs ++ x ∷ [])
all_more P [] x h p = (p, tt)
all_more P (y ∷ xs) x h p = (h.0, all_more P xs x h.1 p)

all_last : {X : Type 0} (P : X → Type 0) (xs : List X) (x : X) → AllByRecursion P (xs ++ x ∷ []) → P x
all_last P [] x h = h.0
all_last P (y ∷ xs) x h = all_last P xs x h.1

sorted_more : (ks : List (List ℕ)) (k next : List ℕ) → IsStrictlySortedBy (slice_cmp nat_cmp) (ks ++ k ∷ [])
    → slice_cmp nat_cmp k next ≡ Less → IsStrictlySortedBy (slice_cmp nat_cmp) ((ks ++ k ∷ []) ++ next ∷ [])
unfolding IsStrictlySortedBy
sorted_more [] k next h less = ((less, tt), (tt, tt))
sorted_more (x ∷ ks) k next h less = (
  all_more _ (ks ++ k ∷ []) next h.0 (nat_list_cmp_total.trans x k next (all_last _ ks k h.0) less),
  sorted_more ks k next h.1 less,
)

sorted_one : (k : List ℕ) → IsStrictlySortedBy (slice_cmp nat_cmp) (k ∷ [])
unfolding IsStrictlySortedBy
sorted_one k = (tt, tt)

names : (rs : List Counted) (r : Counted) → map (λ r. r.0) (rs ++ r ∷ []) ≡ map (λ r. r.0) rs ++ r.0 ∷ []
names rs r = map-append (λ r. r.0) rs (r ∷ [])

one_positive : (word : List ℕ) (n : ℕ) → 0 < n → All (λ (r : Counted). 0 < r.1) ((word, n) ∷ [])
one_positive word n h = All-cons (λ r. 0 < r.1) (word, n) [] h (All-nil (λ r. 0 < r.1))

All-front : (xs ys : List Counted) → All (λ r. 0 < r.1) (xs ++ ys) → All (λ r. 0 < r.1) xs
All-front xs ys h = All-from_recursion (λ r. 0 < r.1) xs (front xs (recursion_from_All (λ r. 0 < r.1) (xs ++ ys) h))
  where
    front : (zs : List Counted) → AllByRecursion (λ r. 0 < r.1) (zs ++ ys) → AllByRecursion (λ r. 0 < r.1) zs
    front [] k = tt
    front (z ∷ zs) k = (k.0, front zs k.1)

split_total : (word : List ℕ) (n m : ℕ) (w : List ℕ)
    → total_count ((word, n + m) ∷ []) w ≡ total_count ((word, n) ∷ []) w + total_count ((word, m) ∷ []) w
split_total word n m w =
    rw (total_one (word, n + m) w, total_one (word, n) w, total_one (word, m) w) (at (bytes_eq w word))
  where
    at : (b : Bool) → (if b then n + m else 0) ≡ (if b then n else 0) + (if b then m else 0)
    at true = refl
    at false = omega arith

same_total : (done read : List Counted) (word : List ℕ) (n m : ℕ) (w : List ℕ) → total_count (done ++ (word, n) ∷ []) w ≡ total_count read w
    → total_count (done ++ (word, n + m) ∷ []) w ≡ total_count (read ++ (word, m) ∷ []) w
same_total done read word n m w h =
    let one = split_total word n m w in
    omega (arith, h, one, total_append done ((word, n + m) ∷ []) w, total_append done ((word, n) ∷ []) w, total_append read ((word, m) ∷ []) w)

table_more : (done read : List Counted) (next : List ℕ) (m : ℕ) → 0 < m
    → IsStrictlySortedBy (slice_cmp nat_cmp) (map (λ r. r.0) (done ++ (next, m) ∷ [])) → IsTable (total_count read) done
    → IsTable (total_count (read ++ (next, m) ∷ [])) (done ++ (next, m) ∷ [])
table_more done read next m some_more sorted table = record {
  sorted = sorted;
  positive = All-append (λ r. 0 < r.1) done ((next, m) ∷ []) table.positive (one_positive next m some_more);
  counted = λ w. omega (arith, table.counted w, total_append done ((next, m) ∷ []) w, total_append read ((next, m) ∷ []) w);
}

-- The first record.
pub holds_first : (done read : List Counted) (word next : List ℕ) (m : ℕ) → 0 < m → TableSoFar done word 0 read
    → TableSoFar (done ++ []) next m (read ++ (next, m) ∷ [])
holds_first done read word next m some_more h =
    let none : done ≡ [] = h.1 refl in
    let table : IsTable (total_count read) [] = rw none at h.0 in
    rw (none, held_is next m some_more) (table_more [] read next m some_more (sorted_one next) table, λ e. refl)

-- One more record of the same word.
pub holds_same : (done read : List Counted) (word : List ℕ) (n m : ℕ) → 0 < n → TableSoFar done word n read
    → TableSoFar (done ++ []) word (n + m) (read ++ (word, m) ∷ [])
holds_same done read word n m some_yet h =
    let more : 0 < n + m = omega (arith, some_yet) in
    let table : IsTable (total_count read) (done ++ (word, n) ∷ []) = rw (held_is word n some_yet) at h.0 in
    rw (append-nil done, held_is word (n + m) more) (
      record {
        sorted = rw (names done (word, n + m), sym (names done (word, n))) table.sorted;
        positive = All-append (λ r. 0 < r.1) done ((word, n + m) ∷ []) (All-front done ((word, n) ∷ []) table.positive) (one_positive word (n + m) more);
        counted = λ w. same_total done read word n m w (table.counted w);
      },
      λ e. absurd (omega (arith, e, more)),
    )

-- A record of a word behind it.
pub holds_next : (done read : List Counted) (word next : List ℕ) (n m : ℕ) → 0 < n → 0 < m → slice_cmp nat_cmp word next ≡ Less
    → TableSoFar done word n read → TableSoFar (done ++ (word, n) ∷ []) next m (read ++ (next, m) ∷ [])
holds_next done read word next n m some_yet some_more less h =
    let table : IsTable (total_count read) (done ++ (word, n) ∷ []) = rw (held_is word n some_yet) at h.0 in
    let sorted = rw (names done (word, n)) at table.sorted in
    rw (held_is next m some_more) (
      table_more (done ++ (word, n) ∷ []) read next m some_more
          (rw (names (done ++ (word, n) ∷ []) (next, m), names done (word, n)) (sorted_more (map (λ r. r.0) done) word next sorted less)) table,
      λ e. absurd (omega (arith, e, some_more)),
    )

-- A line is that of a record if it is a word, a tab, the digits of the count and a newline.
pub record_cut : (line front word digits : List ℕ) (n : ℕ) → line ≡ front ++ 10 ∷ [] → front ≡ word ++ 9 ∷ digits
    → digits ≡ decimal n → line ≡ record_line (word, n)
record_cut line front word digits n e f g = rw (e, f, g) (grind (arith, common_steps))

pub words_equal : (a b : List ℕ) → slice_cmp nat_cmp a b ≡ Equal → a ≡ b
words_equal a b h = (bytes_eq-Decides a b).0 (sym (is_eq-slice_cmp a b) ∙ ap is_eq h)

pub words_greater : (a b : List ℕ) → slice_cmp nat_cmp a b ≡ Greater → slice_cmp nat_cmp b a ≡ Less
words_greater a b h = nat_list_cmp_total.antisymm b a ∙ ap ordering_reverse h

-- What follows is for `one_table`.
less_than_all : (w v : List ℕ) (ks : List (List ℕ)) → slice_cmp nat_cmp w v ≡ Less
    → AllByRecursion (λ y. slice_cmp nat_cmp v y ≡ Less) ks → AllByRecursion (λ y. slice_cmp nat_cmp w y ≡ Less) ks
less_than_all w v [] less h = tt
less_than_all w v (k ∷ ks) less h = (nat_list_cmp_total.trans w v k less h.0, less_than_all w v ks less h.1)

not_same : (w v : List ℕ) → slice_cmp nat_cmp w v ≡ Less → bytes_eq w v ≡ false
not_same w v less = sym (is_eq-slice_cmp w v) ∙ ap is_eq less

same_as_itself : (w : List ℕ) → bytes_eq w w ≡ true
same_as_itself w = (bytes_eq-Decides w w).1 refl

pub absent : (w : List ℕ) (rs : List Counted) → AllByRecursion (λ y. slice_cmp nat_cmp w y ≡ Less) (map (λ r. r.0) rs) → total_count rs w ≡ 0
absent w [] h = total_none w
absent w (r ∷ rs) h = rw (total_cons r rs w, not_same w r.0 h.0) (omega (arith, absent w rs h.1))

pub present : (r : Counted) (rs : List Counted) → total_count (r ∷ rs) r.0 ≡ r.1 + total_count rs r.0
present r rs = rw (total_cons r rs r.0, same_as_itself r.0) refl

rest_total : (x y : Counted) (xs ys : List Counted) (w : List ℕ) → x.0 ≡ y.0 → x.1 ≡ y.1 → total_count (x ∷ xs) w ≡ total_count (y ∷ ys) w
    → total_count xs w ≡ total_count ys w
rest_total x y xs ys w word count h =
    let left = total_cons x xs w in
    let right : total_count (y ∷ ys) w ≡ (if bytes_eq w x.0 then x.1 else 0) + total_count ys w = rw (word, count) (total_cons y ys w) in
    omega (arith, h, left, right)

rows : (x y : Counted) (xs ys : List Counted) → x.0 ≡ y.0 → x.1 ≡ y.1 → xs ≡ ys → x ∷ xs ≡ y ∷ ys
rows x y xs ys word count more =
    let pair : x ≡ y = ap₂ (λ (a : List ℕ) (b : ℕ). (a, b)) word count in ap₂ (λ a b. a ∷ b) pair more

same_tables : (xs ys : List Counted) → IsStrictlySortedBy (slice_cmp nat_cmp) (map (λ r. r.0) xs)
    → IsStrictlySortedBy (slice_cmp nat_cmp) (map (λ r. r.0) ys) → AllByRecursion (λ r. 0 < r.1) xs → AllByRecursion (λ r. 0 < r.1) ys
    → ((w : List ℕ) → total_count xs w ≡ total_count ys w) → xs ≡ ys
unfolding IsStrictlySortedBy
same_tables [] [] a b p q h = refl
same_tables [] (y ∷ ys) a b p q h = absurd (omega (arith, h y.0, total_none y.0, present y ys, q.0))
same_tables (x ∷ xs) [] a b p q h = absurd (omega (arith, h x.0, total_none x.0, present x xs, p.0))
same_tables (x ∷ xs) (y ∷ ys) a b p q h = at (same_tables xs ys a.1 b.1 p.1 q.1) (slice_cmp nat_cmp x.0 y.0) refl
  where
    at : (((w : List ℕ) → total_count xs w ≡ total_count ys w) → xs ≡ ys) → (o : Ordering) → slice_cmp nat_cmp x.0 y.0 ≡ o → x ∷ xs ≡ y ∷ ys
    at rest Less is =
        let none = absent x.0 (y ∷ ys) (is, less_than_all x.0 y.0 (map (λ r. r.0) ys) is b.0) in
        absurd (omega (arith, h x.0, none, present x xs, p.0))
    at rest Greater is =
        let less = words_greater x.0 y.0 is in
        let none = absent y.0 (x ∷ xs) (less, less_than_all y.0 x.0 (map (λ r. r.0) xs) less a.0) in
        absurd (omega (arith, h y.0, none, present y ys, q.0))
    at rest Equal is =
        let word : x.0 ≡ y.0 = words_equal x.0 y.0 is in
        let here : total_count (y ∷ ys) x.0 ≡ y.1 + total_count ys x.0 = rw word (present y ys) in
        let none : total_count xs x.0 ≡ 0 = absent x.0 xs a.0 in
        let nor : total_count ys x.0 ≡ 0 = rw word (absent y.0 ys b.0) in
        let count : x.1 ≡ y.1 = omega (arith, h x.0, present x xs, here, none, nor) in
        let more : xs ≡ ys = rest (λ w. rest_total x y xs ys w word count (h w)) in
        rows x y xs ys word count more

-- Two tables of one function are equal.
pub one_table : (f : List ℕ → ℕ) (xs ys : List Counted) → IsTable f xs → IsTable f ys → xs ≡ ys
one_table f xs ys a b =
    same_tables xs ys a.sorted b.sorted (recursion_from_All (λ r. 0 < r.1) xs a.positive) (recursion_from_All (λ r. 0 < r.1) ys b.positive)
    (λ w. a.counted w ∙ sym (b.counted w))
