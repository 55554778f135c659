-- The `read_exact` future: bytes are read until the buffer is full.
use Rattle.std.specs.Prelude.{◌≡◌, ◌≤◌, ℕ, List, length, take, ◌<◌, [], ◌∷◌, ◌++◌, Result, Ok, Err}
use Rattle.lite_read.specs.declared.read_exact.ReadExactFuture.{ReadExactFuture}
use Rattle.lite_read.specs.Uses.{error_kind, Error, UnexpectedEof, Poll, ReadMark, Runs}
use Rattle.lite_read.specs.ReadFold.{Gathers, ReadFold}

-- The buffer of a `read_exact` future: how far it is filled, and what a poll keeps.

-- The bytes read so far, and the length of the buffer.
abbrev pub Filling : Type 0
Filling = List ℕ × ℕ

-- The bytes that a `read_exact` future has read, and the length of its buffer.
abbrev pub filling_of : {R : Type 0} → ReadExactFuture R → Filling
filling_of x = (take x.filled x.buf.now, length x.buf.now)

-- A poll keeps both references of the `read_exact` future, to the reader and to the buffer, and never fills more than
-- the buffer's length.
pub record ExactStays {R : Type 0} (x y : ReadExactFuture R) : Type 0 where
  pub reader : y.reader ≡ record x.reader { now = y.reader.now }
  pub buf : y.buf ≡ record x.buf { now = y.buf.now }
  pub within : x.filled ≤ length x.buf.now → y.filled ≤ length y.buf.now

-- The buffer is not full yet.
abbrev pub HasRoom : Filling → Type 0
HasRoom g = length g.0 < g.1

-- The value of `read_exact`, and the marks that produce it. It is `Ok` once the buffer is full, without another mark.
-- Before that, end of file is an `UnexpectedEof` error, and an error of the reader is the value.
abbrev pub Fulfils : Filling → List ReadMark → Result (Unit {0}) Error → Type 0
Fulfils g [] r = (length g.0 ≡ g.1) × (r ≡ Ok tt)
Fulfils g (ReadMark.end ∷ []) (Err e) = HasRoom g × (error_kind e ≡ UnexpectedEof)
Fulfils g (ReadMark.fault kind ∷ []) (Err e) = HasRoom g × (error_kind e ≡ kind)
Fulfils g marks r = ⊥

-- The fold of `read_exact`: bytes are consumed while the buffer has room.
abbrev pub fills : ReadFold Filling (Result (Unit {0}) Error)
fills =
    record {
      takes = λ g b h. HasRoom g × (h ≡ (g.0 ++ b ∷ [], g.1));
      asks = HasRoom;
      gives = λ g marks r h. Fulfils g marks r × (h ≡ g);
    }

-- The run of `read_exact`: the reader's marks are gathered into its buffer by `fills`.
abbrev pub ReadsExactly : {R : Type 0} → Runs ReadMark R → Runs (Poll (Result (Unit {0}) Error)) (ReadExactFuture R)
ReadsExactly = Gathers (λ x. x.reader.now) filling_of (λ x. fills) ExactStays
