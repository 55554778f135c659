-- The bytes of requests.
use Rattle.std.specs.Prelude.{◌≢◌, ◌<◌, ◌^◌, ℕ, List, [], ◌∷◌, ◌++◌, decimal, filter, length, nat_lt, slice_index}
use Rattle.std.specs.Char.{is_ascii_whitespace}
use Rattle.std.specs.List.{AllByRecursion, flat_map, slice_split}

-- A number, and the end of its line.
abbrev pub number_line : ℕ → List ℕ
number_line n = decimal n ++ 13 ∷ 10 ∷ []

-- A word: `$`, its length, and its bytes with the end of a line behind them.
abbrev pub word_bytes : List ℕ → List ℕ
word_bytes word = 36 ∷ (number_line (length word) ++ (word ++ 13 ∷ 10 ∷ []))

-- The beginning of a request of so many words: `*`, their number, and some of the words.
abbrev pub request_front : ℕ → List (List ℕ) → List ℕ
request_front total words = 42 ∷ (number_line total ++ flat_map word_bytes words)

-- A request with these words, as an array.
abbrev pub request_bytes : List (List ℕ) → List ℕ
request_bytes words = request_front (length words) words

-- The numbers in a request have at most 64 bits.
abbrev pub IsSized : List (List ℕ) → Type 0
IsSized words = (length words < 2 ^ 64) × AllByRecursion (λ w. length w < 2 ^ 64) words

-- A line has no line feed, and does not begin with `*`.
abbrev pub IsLine : List ℕ → Type 0
IsLine text = AllByRecursion (λ b. b ≢ 10) text × (slice_index text 0 ≢ 42)

-- The words of a line are cut at blanks.
abbrev pub line_words : List ℕ → List (List ℕ)
line_words text = filter (λ word. nat_lt 0 (length word)) (slice_split is_ascii_whitespace text)

-- A request is written as an array, or as a line.
pub data Message : Type 0 where
  array : List (List ℕ) → Message
  line : List ℕ → Message

-- The bytes of a message.
abbrev pub message_bytes : Message → List ℕ
message_bytes (Message.array words) = request_bytes words
message_bytes (Message.line text) = text ++ 10 ∷ []

-- The words of a message.
abbrev pub message_words : Message → List (List ℕ)
message_words (Message.array words) = words
message_words (Message.line text) = line_words text

-- The message can be written: its words have numbers, and its text is one line.
abbrev pub HasWrittenForm : Message → Type 0
HasWrittenForm (Message.array words) = IsSized words
HasWrittenForm (Message.line text) = IsLine text
