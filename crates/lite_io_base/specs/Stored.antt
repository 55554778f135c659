-- What is known of the bytes that a writer keeps.
use Rattle.std.specs.Prelude.{◌≡◌, ℕ, List, [], ◌∷◌, ◌++◌, ⊤}
use Rattle.lite_io_base.specs.Uses.{Runs, ErrorKind}
use Rattle.lite_io_base.specs.WriteMarks.{WriteMark, bytes_taken}
use Rattle.std.specs.declared.io.ErrorKind.TheVariants.{OutOfMemory}

-- The mark is a flush or a close.
abbrev pub Arrives : WriteMark → Type 0
Arrives WriteMark.flushed = ⊤
Arrives WriteMark.closed = ⊤
Arrives _ = ⊥

-- What is known of the values of a writer's type. `stores` picks the values whose bytes are known, and `kept` is those
-- bytes. `arrived` is those of them that no buffer of the writer holds back. All this is said of the run `told`. A
-- clause with a `Stored` requires the writer to run so (`Stores`).
pub record Stored (S : Type 0) : Type 1 where
  pub told : Runs WriteMark S
  -- The values whose bytes are known, and that append each byte that they take to them.
  pub stores : S → Type 0
  -- The bytes that the writer keeps.
  pub kept : S → List ℕ
  -- The bytes that have arrived at their place: after a flush or a close, all.
  pub arrived : S → List ℕ
  pub arrives : (x y : S) (l : List WriteMark) (m : WriteMark) → stores x → told x (l ++ m ∷ []) y → Arrives m
      → arrived y ≡ kept y
  pub tells : (x y : S) (l : List WriteMark) → stores x → told x l y → stores y × (kept y ≡ kept x ++ bytes_taken l)

-- Nothing is known of any value.
abbrev pub unstored : {S : Type 0} → Stored S
unstored = record {
  told = λ x l y. ⊥;
  stores = λ x. ⊥;
  kept = λ x. [];
  arrived = λ x. [];
  arrives = λ x y l m k h a. absurd k;
  tells = λ x y l k h. absurd k;
}

-- The bytes that `x` keeps are known, and each run of the writer from `x` is one that `stored` speaks of.
abbrev pub Stores : {S : Type 0} → Runs WriteMark S → Stored S → S → Type 0
Stores {S} writes stored x = stored.stores x × ((l : List WriteMark) (y : S) → writes x l y → stored.told x l y)

-- How a `Vec<u8>` is written to.

-- The run of a writer that appends the bytes it takes to a list. It may return errors of the kinds that `may` allows.
-- An error, a flush and a close change nothing. It is never pending.
abbrev pub GrowsWhere : (ErrorKind → Type 0) → Runs WriteMark (List ℕ)
GrowsWhere may xs [] ys = ys ≡ xs
GrowsWhere may xs (WriteMark.wrote zs ∷ ms) ys = GrowsWhere may (xs ++ zs) ms ys
GrowsWhere may xs (WriteMark.fault kind ∷ ms) ys = may kind × GrowsWhere may xs ms ys
GrowsWhere may xs (WriteMark.pending ∷ ms) ys = ⊥
GrowsWhere may xs (_ ∷ ms) ys = GrowsWhere may xs ms ys

-- The error says that an allocation failed (`OutOfMemory`).
abbrev pub IsRefusal : ErrorKind → Type 0
IsRefusal kind = kind ≡ OutOfMemory

-- The run of a `Vec<u8>` as a writer: the bytes that it takes are appended. The only error is a failed allocation.
abbrev pub Grows : Runs WriteMark (List ℕ)
Grows = GrowsWhere IsRefusal
