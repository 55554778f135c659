-- Records: words with counts, as lists and as lines.
use Rattle.std.specs.Prelude.{◌≡◌, ◌<◌, ℕ, List, [], ◌∷◌, ◌++◌, decimal, flat_map, if◌then◌else◌, map, nat_eq}
use Rattle.std.specs.Cmp.Lexicographic.{slice_cmp}
use Rattle.std.specs.List.{All, AllZip, sum_by}
use Rattle.std.specs.List.Sorted.{IsPermutation, IsStrictlySortedBy}
use Rattle.std.specs.Ordering.{nat_cmp}
use Rattle.std.specs.Str.{bytes_eq}
use Rattle.example_words.specs.Words.{occurrences}
use Rattle.example_words.specs.declared.counts.Counts.{Counts}
use Rattle.example_words.specs.declared.sum.Sum.{Sum}

-- A word and a count.
abbrev pub Counted : Type 0
Counted = List ℕ × ℕ

-- Its line: the word, a tab, the count in decimal digits, a newline.
abbrev pub record_line : Counted → List ℕ
record_line r = r.0 ++ 9 ∷ decimal r.1 ++ 10 ∷ []

-- The lines of records.
abbrev pub record_lines : List Counted → List ℕ
record_lines = flat_map record_line

-- The sum of the counts of a word.
unfoldable pub total_count : List Counted → List ℕ → ℕ
total_count records word = sum_by (λ r. if bytes_eq word r.0 then r.1 else 0) records

-- The table of `f`: each word that `f` does not count as 0, once, in the order of bytes, with its count.
pub record IsTable (f : List ℕ → ℕ) (records : List Counted) : Type 0 where
  pub sorted : IsStrictlySortedBy (slice_cmp nat_cmp) (map (λ r. r.0) records)
  pub positive : All (λ r. 0 < r.1) records
  pub counted : (word : List ℕ) → total_count records word ≡ f word

-- The records are those of a table for each shard, in any order.
abbrev pub MergesShards : List (List ℕ) → List Counted → Type 0
MergesShards shards records = (tables : List (List Counted)) × AllZip (λ shard table. IsTable (occurrences shard) table) shards tables
    × IsPermutation (flat_map (λ table. table) tables) records

-- What is counted, sorted by word.
abbrev pub counted_records : Counts → List Counted
counted_records c = map (λ e. (e.0.items, e.1)) c.counts.entries

-- The record of a word and its count, or none if the count is 0.
abbrev pub held_record : List ℕ → ℕ → List Counted
held_record word count = if nat_eq count 0 then [] else (word, count) ∷ []

-- The record that is not written yet.
abbrev pub pending : Sum → List Counted
pending s = held_record s.word.items s.count

-- The records `done` and then the one of this word are the table of the records `read`. Before the first there is none.
abbrev pub TableSoFar : List Counted → List ℕ → ℕ → List Counted → Type 0
TableSoFar done word count read = IsTable (total_count read) (done ++ held_record word count) × (count ≡ 0 → done ≡ [])
