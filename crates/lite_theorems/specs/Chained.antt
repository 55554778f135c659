-- A copy from a reader, or from two readers one after the other, to a buffered writer.
use Rattle.std.specs.Prelude.{◌≡◌, ◌%◌, ◌^◌, ℕ, Bool, true, false, List, [], ◌∷◌, ◌++◌, length}
use Rattle.lite_theorems.specs.Uses.{Runs, unwritten, writer_inner, BufWriter, first_of, has_ended, second_of, Chain, ReadMark, WriteMark, bytes_taken}
use Rattle.lite_theorems.specs.Uses.{BytesAlone, bytes_told, source_of, CopyFuture, MutBor}

-- The reader produced the bytes `xs`, with `Pending`s among them, and then its first end of file.
pub record ReadsWhole {R : Type 0} (reads : Runs ReadMark R) (x : R) (xs : List ℕ) (y : R) : Type 0 where
  pub told : List ReadMark
  pub goes_on : BytesAlone told
  pub all : bytes_told told ≡ xs
  pub came : reads x (told ++ ReadMark.end ∷ []) y

-- The writer took the bytes `xs`, and was flushed after them.
pub record WritesWhole {W : Type 0} (writes : Runs WriteMark W) (x : W) (xs : List ℕ) (y : W) : Type 0 where
  pub taken : List WriteMark
  pub all : bytes_taken taken ≡ xs
  pub went : writes x (taken ++ WriteMark.flushed ∷ []) y

-- The reader produced all its bytes up to its first end of file. The inner writer took what was buffered and then these
-- bytes, and was flushed. The buffer is empty, and `n` is the number of bytes copied, modulo 2^64.
pub record CopiesWhole {R W : Type 0} (reads : Runs ReadMark R) (writes : Runs WriteMark W) (r : R) (w : BufWriter W)
    (y : CopyFuture R (MutBor (BufWriter W)))
    (n : ℕ) : Type 0 where
  pub all : List ℕ
  pub told : ReadsWhole reads r all (source_of y)
  pub took : WritesWhole writes (writer_inner w) (unwritten w ++ all) (writer_inner y.writer.now)
  pub empty : unwritten y.writer.now ≡ []
  pub count : n ≡ length all % 2 ^ 64

-- If the reader had ended before, it is not read and produces nothing. Otherwise it produces the bytes `xs` whole.
abbrev pub ReadsRest : {R : Type 0} → Bool → Runs ReadMark R → Runs ℕ R
ReadsRest true reads x xs y = (xs ≡ []) × (y ≡ x)
ReadsRest false reads x xs y = ReadsWhole reads x xs y

-- A chain produced the bytes `xs`: all that was left of its first reader, and then all of its second reader.
pub record ReadsBoth {R S : Type 0} (first : Runs ReadMark R) (second : Runs ReadMark S) (x : Chain R S) (xs : List ℕ)
    (y : Chain R S) : Type 0 where
  pub firsts : List ℕ
  pub seconds : List ℕ
  pub first_told : ReadsRest (has_ended x) first (first_of x) firsts (first_of y)
  pub second_told : ReadsWhole second (second_of x) seconds (second_of y)
  pub all : xs ≡ firsts ++ seconds

-- As `CopiesWhole`, from two readers, one after the other.
pub record CopiesBoth {R S W : Type 0} (first : Runs ReadMark R) (second : Runs ReadMark S) (writes : Runs WriteMark W)
    (r : R) (s : S) (w : BufWriter W)
    (y : CopyFuture (Chain R S) (MutBor (BufWriter W))) (n : ℕ) : Type 0 where
  pub firsts : List ℕ
  pub seconds : List ℕ
  pub first_told : ReadsWhole first r firsts (first_of (source_of y))
  pub second_told : ReadsWhole second s seconds (second_of (source_of y))
  pub took : WritesWhole writes (writer_inner w) (unwritten w ++ (firsts ++ seconds)) (writer_inner y.writer.now)
  pub empty : unwritten y.writer.now ≡ []
  pub count : n ≡ length (firsts ++ seconds) % 2 ^ 64
