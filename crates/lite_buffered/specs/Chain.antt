-- `chain`: reads one reader up to its end of file, and then another.
use Rattle.std.specs.Prelude.{◌≡◌, Bool, true, false, List, [], ◌∷◌, ◌++◌, ⊤, cond, replicate, ℕ, ◌+◌, MatchBool}
use Rattle.lite_buffered.specs.Uses.{ReadMark, Runs, Lasting, Ranks}
use Rattle.lite_buffered.specs.declared.chain.Chain.{Chain}

-- None of these marks is end of file.
abbrev pub EndlessMarks : List ReadMark → Type 0
EndlessMarks [] = ⊤
EndlessMarks (m ∷ ms) = (m ≡ ReadMark.end → ⊥) × EndlessMarks ms

module _ {R S : Type 0} (first : Runs ReadMark R) (second : Runs ReadMark S) where
  -- A run in which the first reader ends: its marks before its first end of file, which is not passed on, and then
  -- those of the second reader.
  pub record ReadsAcross (x : Chain R S) (ms : List ReadMark) (y : Chain R S) : Type 0 where
    pub before : List ReadMark
    pub after : List ReadMark
    pub cut : ms ≡ before ++ after
    pub no_end : EndlessMarks before
    pub between : R
    pub first_ran : first x.first before between
    pub first_ended : first between (ReadMark.end ∷ []) y.first
    pub second_ran : second x.second after y.second

  -- The run of a chain, by whether the first reader had ended before it and has ended after it. Neither: only the first
  -- is read. Only after: the marks go across (`ReadsAcross`). Both: only the second is read.
  abbrev pub JoinsReaders : (had_ended has_ended : Bool) → Runs ReadMark (Chain R S)
  JoinsReaders false false x ms y = first x.first ms y.first × EndlessMarks ms × (y.second ≡ x.second)
  JoinsReaders false true x ms y = ReadsAcross x ms y
  JoinsReaders true true x ms y = second x.second ms y.second × (y.first ≡ x.first)
  JoinsReaders true false x ms y = ⊥

  -- The run of a chain: the first reader's marks before its first end of file, and then the second reader's.
  abbrev pub ChainsReaders : Runs ReadMark (Chain R S)
  ChainsReaders x ms y = JoinsReaders x.has_ended y.has_ended x ms y

-- The first reader.
abbrev pub first_of : {R S : Type 0} → Chain R S → R
first_of x = x.first

-- The second reader.
abbrev pub second_of : {R S : Type 0} → Chain R S → S
second_of x = x.second

-- The first reader has reached end of file.
abbrev pub has_ended : {R S : Type 0} → Chain R S → Bool
has_ended x = x.has_ended

-- What a pending read registers in its context: what the current reader registers. That is the second one once the
-- first has ended.
abbrev pub ChainReadRegisters : {R S : Type 0} → (R → Lasting → Type 0) → (S → Lasting → Type 0) → Chain R S → Lasting
    → Type 0
ChainReadRegisters first second x fact = MatchBool x.has_ended (second x.second fact) (first x.first fact)

-- The bytes that a chain has buffered: those of the current reader.
abbrev pub chain_shown : {R S : Type 0} → (R → List ℕ) → (S → List ℕ) → Chain R S → List ℕ
chain_shown first second x = cond x.has_ended (second x.second) (first x.first)

-- The rank of a chain: the first reader's rank, or zeros once it has ended, followed by the second reader's rank.
abbrev pub chain_read_ranks : {R S : Type 0} → Ranks R → Ranks S → Ranks (Chain R S)
chain_read_ranks r s =
    record {
      width = r.width + s.width;
      rank = λ x. cond x.has_ended (replicate r.width 0) (r.rank x.first) ++ s.rank x.second;
      counts = λ x. r.counts x.first × s.counts x.second;
      firm = λ x. r.firm x.first × s.firm x.second;
    }
