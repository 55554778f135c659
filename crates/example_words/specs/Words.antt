-- The words of a text, and how often each is there.
use Rattle.std.specs.Prelude.{◌≡◌, ◌<◌, ◌⊎◌, ℕ, List, [], ◌∷◌, ◌++◌, ⊤, None, count_by, if◌then◌else◌, length, nat_lt}
use Rattle.std.specs.Char.{is_ascii_whitespace}
use Rattle.std.specs.List.{filter, position}
use Rattle.std.specs.Str.{bytes_eq}

-- With a byte before the first piece.
abbrev pub longer_first : ℕ → List (List ℕ) → List (List ℕ)
longer_first b [] = (b ∷ []) ∷ []
longer_first b (piece ∷ more) = (b ∷ piece) ∷ more

-- The pieces of a text between its bytes of white space. Those between two that are neighbours are empty.
abbrev pub text_pieces : List ℕ → List (List ℕ)
text_pieces [] = [] ∷ []
text_pieces (b ∷ bs) = if is_ascii_whitespace b then [] ∷ text_pieces bs else longer_first b (text_pieces bs)

-- The words of a text are its pieces that are not empty.
unfoldable pub words : List ℕ → List (List ℕ)
words text = filter (λ piece. nat_lt 0 (length piece)) (text_pieces text)

-- How often a word is in a text.
unfoldable pub occurrences : List ℕ → List ℕ → ℕ
occurrences text word = count_by (bytes_eq word) (words text)

-- These bytes are a word: there is one at least, and none is white space.
abbrev pub IsWord : List ℕ → Type 0
IsWord bytes = (0 < length bytes) × (position is_ascii_whitespace bytes ≡ None)

-- The text is whole lines: it is empty, or its last byte is a newline.
abbrev pub WholeLines : List ℕ → Type 0
WholeLines text = (text ≡ []) ⊎ ((front : List ℕ) × (text ≡ front ++ 10 ∷ []))

-- These shards were cut at line ends: each but the last is whole lines.
abbrev pub CutAtLines : List (List ℕ) → Type 0
CutAtLines [] = ⊤
CutAtLines (shard ∷ []) = ⊤
CutAtLines (shard ∷ next ∷ shards) = WholeLines shard × CutAtLines (next ∷ shards)
