-- The marks that the calls on a writer leave. Which marks a writer may leave is its `writes`, from the trait `WriteSpec`.
use Rattle.std.specs.Prelude.{ℕ, List, [], ◌∷◌, flat_map, take, Result, Ok, Err}
use Rattle.lite_io_base.specs.Uses.{error_kind, Error, ErrorKind, Poll, Ready, Pending, Runs}
use Rattle.lite_io_base.specs.Runs.{StandsFirst}

-- A mark of writing is what one call on a writer did. The writer accepted some bytes, returned `Pending` or an error of
-- a kind, flushed or closed. `nothing`: it returned `Ok` and was offered no bytes.
pub data WriteMark : Type 0 where
  wrote : List ℕ → WriteMark
  pending : WriteMark
  fault : ErrorKind → WriteMark
  flushed : WriteMark
  closed : WriteMark
  nothing : WriteMark

-- The marks of a result of `poll_write`, which was offered these bytes. An `Ok` takes the first of them, as many as it
-- counts. If no bytes were offered, it leaves `nothing`.
abbrev pub write_marks : Poll (Result ℕ Error) → List ℕ → List WriteMark
write_marks Pending offered = WriteMark.pending ∷ []
write_marks (Ready (Err e)) offered = WriteMark.fault (error_kind e) ∷ []
write_marks (Ready (Ok n)) [] = WriteMark.nothing ∷ []
write_marks (Ready (Ok n)) (x ∷ xs) = WriteMark.wrote (take n (x ∷ xs)) ∷ []

-- The marks of a result of `poll_flush` or `poll_close`. `done` is the mark of an `Ok`.
abbrev pub done_marks : WriteMark → Poll (Result (Unit {0}) Error) → List WriteMark
done_marks done Pending = WriteMark.pending ∷ []
done_marks done (Ready (Err e)) = WriteMark.fault (error_kind e) ∷ []
done_marks done (Ready (Ok u)) = done ∷ []

-- The bytes that one mark says were taken.
abbrev pub bytes_in : WriteMark → List ℕ
bytes_in (WriteMark.wrote xs) = xs
bytes_in m = []

-- All bytes that a writer took, in order.
abbrev pub bytes_taken : List WriteMark → List ℕ
bytes_taken = flat_map bytes_in

-- The writer took some of the bytes `offered`, from the front on, or all of them.
abbrev pub TakesFront : {W : Type 0} → Runs WriteMark W → W → List ℕ → List WriteMark → W → Type 0
TakesFront writes x offered took x' = writes x took x' × StandsFirst (bytes_taken took) offered
