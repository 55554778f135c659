-- What stands at the front of some bytes.
use Rattle.std.specs.Prelude.{◌≡◌, ◌≤◌, ◌<◌, ◌+◌, ◌^◌, ℕ, List, ◌∷◌, ◌++◌, Option, Some, None, Result, Ok, Err, decimal, drop, length, take}
use Rattle.example_redis.specs.Bytes.{number_line, word_bytes}
use Rattle.example_redis.specs.declared.error.RequestError.{RequestError}
use Rattle.example_redis.specs.declared.error.RequestError.TheVariants.{LongRequest, LongWord, Malformed}
use Rattle.example_redis.specs.declared.limits.Limits.{Limits}
use Rattle.example_redis.specs.declared.number.Number.{Number}
use Rattle.example_redis.specs.declared.number.Number.TheVariants.{Large, More, Whole}
use Rattle.example_redis.specs.declared.number.Number.TheVariants as variant
use Rattle.example_redis.specs.declared.word.Place.{Place}

-- The bytes begin with a number and the end of its line.
abbrev pub HasNumber : List ℕ → Type 0
HasNumber xs = (n : ℕ) × (rest : List ℕ) × (n < 2 ^ 64) × (xs ≡ number_line n ++ rest)

-- A number is at the front, or its first digits are above the limit. Or more bytes make one of these, or none do.
abbrev pub ReadsNumber : ℕ → List ℕ → Number → Type 0
ReadsNumber max xs (Whole n size) = (n ≤ max) × (n < 2 ^ 32) × (rest : List ℕ) × (size ≡ length (number_line n)) × (xs ≡ number_line n ++ rest)
ReadsNumber max xs Large = (n : ℕ) × (rest : List ℕ) × (max < n) × (n < 2 ^ 64) × (xs ≡ decimal n ++ rest)
ReadsNumber max xs More = (n : ℕ) × (more : List ℕ) × (n ≤ max) × (n < 2 ^ 32) × (0 < length more) × (xs ++ more ≡ number_line n)
ReadsNumber max xs variant.Malformed = (more : List ℕ) → HasNumber (xs ++ more) → ⊥

-- The bytes begin with a word.
abbrev pub HasWord : List ℕ → Type 0
HasWord xs = (word rest : List ℕ) × (length word < 2 ^ 64) × (xs ≡ word_bytes word ++ rest)

-- A word is at the front, or more bytes make one, or none do. Or it is too long.
abbrev pub ReadsWord : Limits → ℕ → List ℕ → Result (Option Place) RequestError → Type 0
ReadsWord limits room xs (Ok (Some place)) =
    (word rest : List ℕ) × (xs ≡ word_bytes word ++ rest) × (length word ≤ limits.word) × (length (word_bytes word) ≤ room)
    × (length word ≡ place.len) × (length word < 2 ^ 32) × (word ≡ take place.len (drop place.start xs))
    × (place.start + place.len + 2 ≡ length (word_bytes word))
ReadsWord limits room xs (Ok None) =
    (word more : List ℕ) × (length word ≤ limits.word) × (length word < 2 ^ 64) × (0 < length more) × (xs ++ more ≡ word_bytes word)
    × (length xs ≤ room + 12)
ReadsWord limits room xs (Err Malformed) = (more : List ℕ) → HasWord (xs ++ more) → ⊥
ReadsWord limits room xs (Err LongWord) =
    (n : ℕ) × (rest : List ℕ) × (limits.word < n) × (n < 2 ^ 64) × (xs ≡ 36 ∷ (decimal n ++ rest))
ReadsWord limits room xs (Err LongRequest) =
    (n : ℕ) × (rest : List ℕ) × (n < 2 ^ 64) × (room < length (number_line n) + n + 3) × (xs ≡ 36 ∷ (number_line n ++ rest))
ReadsWord limits room xs (Err e) = ⊥

-- The end of the line behind a word at a place is there, or more bytes make one, or none do.
abbrev pub EndsWord : Place → List ℕ → Result (Option Place) RequestError → Type 0
EndsWord place xs (Ok (Some found)) =
    (found ≡ place) × (word rest : List ℕ) × (xs ≡ word_bytes word ++ rest) × (length word ≡ place.len) × (word ≡ take place.len (drop place.start xs))
EndsWord place xs (Ok None) = (word more : List ℕ) × (length word ≡ place.len) × (0 < length more) × (xs ++ more ≡ word_bytes word)
    × (length xs < place.start + place.len + 2)
EndsWord place xs (Err Malformed) = (more : List ℕ) → HasWord (xs ++ more) → ⊥
EndsWord place xs (Err e) = ⊥
