-- A writer that was given bytes and then flushed, and two such writers that are alike.
use Rattle.std.specs.Prelude.{◌≡◌, ℕ, List, Result, Ok, Err, IsOk}
use Rattle.lite_theorems.specs.Uses.{Error, OnlyWrites, WriteMark, bytes_taken}
use Rattle.lite_write.specs.Handed.{FailsAfter, FlushedOnce}

-- If the value is `Ok`, one flush came last, and the writes before it took the bytes `offered`. If it is an error, that
-- came last. No flush or close came before.
abbrev pub WrittenUp : List ℕ → List WriteMark → Result (Unit {0}) Error → Type 0
WrittenUp offered took (Ok u) = FlushedOnce took × (bytes_taken took ≡ offered)
WrittenUp offered took (Err e) = FailsAfter OnlyWrites took e

-- The two writers were written as `WrittenUp` says. If both values are `Ok`, the same bytes are below the two, and the
-- writers are alike again.
pub record BothWritten {W : Type 0} (alike : W → W → Type 0) (below : W → List ℕ) (offered : List ℕ)
    (took : List WriteMark)
    (v : Result (Unit {0}) Error) (x' : W) (more : List WriteMark) (w : Result (Unit {0}) Error) (y' : W) : Type 0 where
  pub first : WrittenUp offered took v
  pub second : WrittenUp offered more w
  pub same : IsOk v → IsOk w → (below x' ≡ below y') × alike x' y'
