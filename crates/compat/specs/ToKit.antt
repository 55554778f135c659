-- What the toolchain's traits say of the runs of a stream, reader or writer of this library.
use Rattle.std.specs.Prelude.{◌≡◌, ℕ, List, [], ◌∷◌, ◌++◌, map, Option, Some}
use Rattle.lite_base.specs.Spent.{Finishes}
use Rattle.compat.specs.Uses.{Answer, Error, Poll, ReadMark, Runs, WriteMark, bytes_taken, bytes_told, error_kind, strip}

-- The future may be polled to this value.
abbrev pub FinishesWith : {F A : Type 0} → Runs (Poll A) F → F → A → Type 0
FinishesWith {A = A} run f v = (ins : List (Poll A)) × Finishes run f ins v

-- The stream gave the items `xs`, and then one more answer: `last`, an item or its end. `Pending`s are left out.
pub record YieldsUpTo {S A : Type 0} (run : Runs (Answer A) S) (x : S) (xs : List A) (last : Option A) : Type 0 where
  pub ins : List (Answer A)
  pub left : S
  pub came : run x ins left
  pub gave : strip ins ≡ map Some xs ++ last ∷ []

module _ {R : Type 0} (reads : Runs ReadMark R) where
  -- The reader ran, and gave just these bytes.
  pub record GaveBytes (x : R) (xs : List ℕ) (y : R) : Type 0 where
    pub told : List ReadMark
    pub came : reads x told y
    pub gave : bytes_told told ≡ xs

  -- Some read met end of file, and left this reader.
  abbrev pub EndedAt : R → Type 0
  EndedAt y = (x : R) × reads x (ReadMark.end ∷ []) y

  -- Some read returned an error of this one's kind, and left this reader.
  abbrev pub FailedAt : R → Error → Type 0
  FailedAt y e = (x : R) × reads x (ReadMark.fault (error_kind e) ∷ []) y

module _ {W : Type 0} (writes : Runs WriteMark W) where
  -- The writer ran, and took just these bytes.
  pub record TookBytes (x : W) (xs : List ℕ) (y : W) : Type 0 where
    pub took : List WriteMark
    pub came : writes x took y
    pub gave : bytes_taken took ≡ xs

  -- Some call left this mark, and this writer.
  abbrev pub WroteAt : WriteMark → W → Type 0
  WroteAt mark y = (x : W) × writes x (mark ∷ []) y

  -- Some call returned an error of this one's kind, and left this writer.
  abbrev pub WriteFailedAt : W → Error → Type 0
  WriteFailedAt y e = WroteAt (WriteMark.fault (error_kind e)) y
