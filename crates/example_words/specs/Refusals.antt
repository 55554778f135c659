-- Why a line is refused.
use Rattle.std.specs.Prelude.{◌≡◌, ◌≢◌, ℕ, ◌+◌, ◌^◌, ◌<◌, ◌≤◌, ◌⊎◌, List, [], ◌∷◌, ◌++◌, ⊤, decimal}
use Rattle.std.specs.Cmp.Lexicographic.{slice_cmp}
use Rattle.std.specs.Ordering.{nat_cmp}
use Rattle.std.specs.Str.Parse.{IsNumeral, digits_value}
use Rattle.std.specs.declared.cmp.Ordering.TheVariants.{Less}
use Rattle.futures_lite.specs.Readers.{Without}
use Rattle.example_words.specs.Records.{Counted, record_line}
use Rattle.example_words.specs.Words.{IsWord, occurrences}
use Rattle.example_words.specs.declared.fault.LineError.{LineError}
use Rattle.example_words.specs.declared.fault.LineError.TheVariants.{CutOff, Memory, NoCount, NoTab, NoWord, OutOfOrder, TooLarge}

-- Why these bytes are no count. `NoCount`: no number above 0 and of at most 64 digits is written so. `TooLarge`: they are
-- the digits of a number past 64 bits.
abbrev pub RefusedCount : List ℕ → LineError → Type 0
RefusedCount digits NoCount = (n : ℕ) → 0 < n → n < 10 ^ 64 → digits ≢ decimal n
RefusedCount digits TooLarge = IsNumeral 10 digits × (2 ^ 64 ≤ digits_value 10 digits)
RefusedCount digits _ = ⊥

-- The line is a text without a tab, a tab, a second text and a newline, and `Fact` holds of the two texts.
abbrev pub AtTab : (List ℕ → List ℕ → Type 0) → List ℕ → Type 0
AtTab Fact line = (word : List ℕ) × (digits : List ℕ) × (line ≡ word ++ 9 ∷ digits ++ 10 ∷ []) × Without 9 word × Fact word digits

-- Why a line is not that of a record.
abbrev pub RefusedRecord : List ℕ → LineError → Type 0
RefusedRecord line CutOff = (front : List ℕ) → line ≢ front ++ 10 ∷ []
RefusedRecord line NoTab = (front : List ℕ) × (line ≡ front ++ 10 ∷ []) × Without 9 front
RefusedRecord line NoWord = AtTab (λ word digits. IsWord word → ⊥) line
RefusedRecord line NoCount = AtTab (λ word digits. IsWord word × RefusedCount digits NoCount) line
RefusedRecord line TooLarge = AtTab (λ word digits. IsWord word × RefusedCount digits TooLarge) line
RefusedRecord line _ = ⊥

-- Why the record `next` is not added to the sum `count` of `word`. There is no sum before the first record.
abbrev pub RefusedSum : List ℕ → ℕ → Counted → LineError → Type 0
RefusedSum word count next OutOfOrder = (0 < count) × (slice_cmp nat_cmp next.0 word ≡ Less)
RefusedSum word count next TooLarge = (next.0 ≡ word) × (2 ^ 64 ≤ count + next.1)
RefusedSum word count next Memory = ⊤
RefusedSum word count next _ = ⊥

-- Why a line is not added to the sum: it is not that of a record, or its record is refused.
abbrev pub RefusedLine : List ℕ → ℕ → List ℕ → LineError → Type 0
RefusedLine word count line e = RefusedRecord line e ⊎ ((next : Counted) × (line ≡ record_line next) × RefusedSum word count next e)

-- Why a word that was counted `count` times is not counted once more. Only a new word needs memory.
abbrev pub RefusedWord : ℕ → LineError → Type 0
RefusedWord count TooLarge = 2 ^ 64 ≤ count + 1
RefusedWord count Memory = count ≡ 0
RefusedWord count _ = ⊥

-- Why the words of a line are not all counted. `counted` says how often each word was counted before it.
abbrev pub RefusedWords : (List ℕ → ℕ) → List ℕ → LineError → Type 0
RefusedWords counted line TooLarge = (word : List ℕ) × (2 ^ 64 ≤ counted word + occurrences line word)
RefusedWords counted line Memory = (word : List ℕ) × (counted word ≡ 0) × (0 < occurrences line word)
RefusedWords counted line _ = ⊥
