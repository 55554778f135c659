-- A source's list that is cut into segments, one for each result that is made of it.
use Rattle.std.specs.Prelude.{◌≡◌, ◌%◌, ◌==◌, List, [], ◌∷◌, ◌++◌, map, Bool, true, false, ◌⊎◌, ℕ, ◌-◌, Some, None}
use Rattle.lite_base.specs.Uses.{FoldsTo, Poll, Ready, Pending}
use Rattle.rand_core.specs.Stream.{Stream, next_u32}
use Rattle.lite_base.specs.Answers.{UpToValue, Answer}
use Rattle.lite_base.specs.Runs.{Question, Runs}

-- One segment of the source's list: the things `taken` are consumed one after the other, and the rest, `last`,
-- determines the result. `shows` says how such a thing appears in the list, `takes` how it is consumed, and `gives`
-- what the result is.
pub record Segment {M A I O : Type 0} (shows : A → I) (takes : M → A → M → Type 0) (gives : Question M (List I) O)
    (p : M) (segment : List I) (answer : O) (q : M) : Type 0 where
  pub taken : List A
  pub last : List I
  pub cut : segment ≡ map shows taken ++ last
  pub between : M
  pub folds : FoldsTo takes p taken between
  pub given : gives between last answer q

module _ {M I O : Type 0} where
  -- The rest of the segment is one result of the source, and `gives` says what it becomes.
  abbrev pub OneAnswer : Question M I O → Question M (List I) O
  OneAnswer gives p last b q = (a : I) × (last ≡ a ∷ []) × gives p a b q

  -- The list `ins` is cut into segments, one for each result in `out`. Each goes on in the state that the one before it
  -- left. `one` says what a segment is.
  abbrev pub Segments : Question M (List I) O → M → List I → List O → M → Type 0
  Segments one p ins [] q = (ins ≡ []) × (q ≡ p)
  Segments one p ins (a ∷ out) q =
      (first : List I) × (rest : List I) × (m : M) × (ins ≡ first ++ rest) × one p first a m × Segments one m rest out q

-- The segments of a future, whose first value is its last result.
abbrev pub SegmentsToValue : {M I R : Type 0} → Question M (List I) (Poll R) → M → List I → List (Poll R) → M → Type 0
SegmentsToValue one p ins out q = Segments one p ins out q × UpToValue out

-- Two lists that are read row by row, as those of two streams or futures of which each poll polls one first.

-- The lists `i` and `j` are read to their ends, row by row, and each row has one result in `out`. For each row `order`
-- says which list is read first: `i` if it is true. `row i j c i' j'` says that a row in which `i` is read first has
-- the result `c` and leaves `i'` and `j'`.
abbrev pub Rows : {A : Type 0} → ((i j : List A) (c : A) (i' j' : List A) → Type 0) → List Bool → (i j out : List A)
    → Type 0
Rows row [] i j out = (i ≡ []) × (j ≡ []) × (out ≡ [])
Rows row (first ∷ order) i j [] = ⊥
Rows {A} row (true ∷ order) i j (c ∷ out) = (i' j' : List A) × row i j c i' j' × Rows row order i' j' out
Rows {A} row (false ∷ order) i j (c ∷ out) = (i' j' : List A) × row j i c j' i' × Rows row order i' j' out

-- The source's results, with a pause whenever a budget of things in a row is used up.

-- While some of the budget is left, each thing comes in the results as the source returned it. When nothing is left,
-- the result is `pause`, nothing is read from the source, and the whole budget is there again. Of the two numbers the
-- first is the budget and the second is what is left of it. `after` says what is left after a thing.
abbrev pub Paces : {X : Type 0} → X → (ℕ → X → ℕ → ℕ) → ℕ × ℕ → List X → List X → ℕ × ℕ → Type 0
Paces pause after p ins [] q = (ins ≡ []) × (q ≡ p)
Paces {X} pause after p ins (b ∷ out) q =
    ((p.1 ≡ 0) × (b ≡ pause) × Paces pause after (p.0, p.0) ins out q)
    ⊎ ((p.1 ≡ 0 → ⊥) × (rest : List X) × (ins ≡ b ∷ rest) × Paces pause after (p.0, after p.0 b p.1) rest out q)

-- What is left of the budget after a result: an item uses one, after a `Pending` the whole budget is there again, and
-- the end of the stream changes nothing.
abbrev pub left_behind : {A : Type 0} → ℕ → Answer A → ℕ → ℕ
left_behind budget Pending n = budget
left_behind budget (Ready None) n = n
left_behind budget (Ready (Some x)) n = n - 1

-- The order of the rows, as a random generator says it.

-- The words that the generator returned in order. The first stream has all words that are to come, and the second those
-- that are left.
abbrev pub Words : Runs ℕ Stream
Words = FoldsTo (λ s word left. (word, left) ≡ next_u32 s)

-- The first future is polled first if the lowest bit of the word is 1.
abbrev pub is_first : ℕ → Bool
is_first word = word % 2 == 1
