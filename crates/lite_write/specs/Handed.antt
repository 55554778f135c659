-- What a writer takes while `write_all` and `flush` are waited for.
use Rattle.std.specs.Prelude.{◌≡◌, ◌⊎◌, ℕ, List, [], ◌∷◌, ◌++◌, Result, Ok, Err, ⊤}
use Rattle.lite_write.specs.Uses.{error_kind, Error, WriteZero, WriteMark, bytes_taken}

-- Each mark is a `Pending`, or a write that took at least one byte. So none is an error, a flush or a close.
abbrev pub OnlyWrites : List WriteMark → Type 0
OnlyWrites [] = ⊤
OnlyWrites (WriteMark.pending ∷ l) = OnlyWrites l
OnlyWrites (WriteMark.wrote (x ∷ xs) ∷ l) = OnlyWrites l
OnlyWrites (_ ∷ l) = ⊥

-- The same, with flushes among them. So none is an error or a close.
abbrev pub WritesAndFlushes : List WriteMark → Type 0
WritesAndFlushes [] = ⊤
WritesAndFlushes (WriteMark.pending ∷ l) = WritesAndFlushes l
WritesAndFlushes (WriteMark.wrote (x ∷ xs) ∷ l) = WritesAndFlushes l
WritesAndFlushes (WriteMark.flushed ∷ l) = WritesAndFlushes l
WritesAndFlushes (_ ∷ l) = ⊥

-- The last mark is the one flush. Those before it are `OnlyWrites`.
abbrev pub FlushedOnce : List WriteMark → Type 0
FlushedOnce took = (before : List WriteMark) × OnlyWrites before × (took ≡ before ++ WriteMark.flushed ∷ [])

-- After the marks `before` came the error `e`, or a write that took nothing, whose error is `WriteZero`.
abbrev pub FailsBy : List WriteMark → List WriteMark → Error → Type 0
FailsBy before took e = (took ≡ before ++ WriteMark.fault (error_kind e) ∷ [])
    ⊎ ((took ≡ before ++ WriteMark.wrote [] ∷ []) × (error_kind e ≡ WriteZero))

-- The error came last, and `Fine` is true of the marks before it.
pub record FailsAfter (Fine : List WriteMark → Type 0) (took : List WriteMark) (e : Error) : Type 0 where
  pub before : List WriteMark
  pub fine : Fine before
  pub last : FailsBy before took e

-- The error came last. Before it came only `Pending`s, writes that each took some bytes, and flushes.
abbrev pub FailsWith : List WriteMark → Error → Type 0
FailsWith = FailsAfter WritesAndFlushes

-- If the value is `Ok`, there were only `Pending`s and writes, and together these took the bytes `offered`. If it is an
-- error, that came last, after such marks alone.
abbrev pub HandedUp : List ℕ → List WriteMark → Result (Unit {0}) Error → Type 0
HandedUp offered took (Ok u) = OnlyWrites took × (bytes_taken took ≡ offered)
HandedUp offered took (Err e) = FailsAfter OnlyWrites took e

-- If the value is `Ok`, one flush came last. If it is an error, that came last. Before it came only `Pending`s and
-- writes.
abbrev pub FlushedUp : List WriteMark → Result (Unit {0}) Error → Type 0
FlushedUp took (Ok u) = FlushedOnce took
FlushedUp took (Err e) = FailsAfter OnlyWrites took e
