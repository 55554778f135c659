-- A reader of your own that is specified by a step: what one mark may leave. Its run is `Steps step`, its laws are
-- `reader_by_steps`, and its rank is `reader_counting`.
use Rattle.std.specs.Prelude.{◌<◌, ◌≤◌, ℕ, ◌≡◌, List, [], ◌∷◌, map}
use Rattle.lite_theorems.specs.Uses.{ErrorKind, ReadMark, drop, Runs}
use Rattle.std.proofs.Common.{◌+◌}

-- `step` says which value one mark may leave.
module _ {S : Type 0} (step : S → ReadMark → S → Type 0) where
  -- Each byte and each error lowers the number, and no `Pending` and no end of file raises it.
  pub record MarksLower (number : S → ℕ) : Type 0 where
    pub by_byte : (x y : S) (b : ℕ) → step x (ReadMark.byte b) y → number y < number x
    pub by_fault : (x y : S) (kind : ErrorKind) → step x (ReadMark.fault kind) y → number y < number x
    pub by_pending : (x y : S) → step x ReadMark.pending y → number y ≤ number x
    pub by_end : (x y : S) → step x ReadMark.end y → number y ≤ number x

-- A reader of your own that is specified by a step and reads many bytes at once. Each of these bytes is one step.

-- `left` is the bytes that are to come, and `further x n` is `x` after `n` of them were read.
module _ {S : Type 0} (step : S → ReadMark → S → Type 0) (left : S → List ℕ) (further : S → ℕ → S) where
  -- What the reader's step has to do with its bytes: reading none changes nothing, and reading one and then more is
  -- reading all these.
  pub record ReadsLeft : Type 0 where
    pub none : (x : S) → further x 0 ≡ x
    pub more : (x : S) (n : ℕ) → further (further x 1) n ≡ further x (n + 1)
    -- A step reads the first of the bytes that are to come.
    pub by_byte : (x : S) (b : ℕ) (rest : List ℕ) → left x ≡ b ∷ rest → (left (further x 1) ≡ rest)
        × step x (ReadMark.byte b) (further x 1)
    -- If none is to come, a step is the end of file.
    pub by_end : (x : S) → left x ≡ [] → step x ReadMark.end x

-- `left` is the bytes that are to come, and `on x n` is `x` after `n` of them were read.
module _ {S : Type 0} (left : S → List ℕ) (on : S → ℕ → S) where
  -- A step over bytes that are known: a byte is the first of those that are to come, and the end of file comes if there
  -- is none. No `Pending` and no error comes.
  abbrev pub FrontStep : S → ReadMark → S → Type 0
  FrontStep x (ReadMark.byte b) y = (left x ≡ b ∷ left y) × (y ≡ on x 1)
  FrontStep x ReadMark.end y = (left x ≡ []) × (y ≡ x)
  FrontStep x ReadMark.pending y = ⊥
  FrontStep x (ReadMark.fault kind) y = ⊥

  -- Reading none changes nothing, reading some and then more is reading all these, and what is left then are the bytes
  -- without those.
  pub record FrontLaws : Type 0 where
    pub none : (x : S) → on x 0 ≡ x
    pub more : (x : S) (m n : ℕ) → on (on x m) n ≡ on x (m + n)
    pub rest : (x : S) (n : ℕ) → left (on x n) ≡ drop n (left x)

-- A reader over another reader, which changes the bytes and passes on everything else. Its laws are `reader_handing`,
-- and its rank is `handing_counting`.

-- The event of a read (a mark), with `f` of the byte if it is one.
abbrev pub each_byte : (ℕ → ℕ) → ReadMark → ReadMark
each_byte f (ReadMark.byte x) = ReadMark.byte (f x)
each_byte f ReadMark.pending = ReadMark.pending
each_byte f (ReadMark.fault kind) = ReadMark.fault kind
each_byte f ReadMark.end = ReadMark.end

-- The inner reader produced some marks, and the outer one produced them with `f` of each byte.
pub record HandsOn {M R : Type 0} (part : M → R) (f : ℕ → ℕ) (reads : Runs ReadMark R) (x : M) (l : List ReadMark)
    (y : M) : Type 0 where
  pub ins : List ReadMark
  pub came : reads (part x) ins (part y)
  pub out : l ≡ map (each_byte f) ins
