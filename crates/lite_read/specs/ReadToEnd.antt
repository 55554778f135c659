-- The `read_to_end` future: the bytes before the first end of file are appended to a vector.
use Rattle.std.specs.Prelude.{◌≡◌, ◌≤◌, ◌-◌, ◌*◌, ℕ, List, length, take, max, vec_capacity, ◌<◌, ◌+◌, [], ◌∷◌, ◌++◌, Result, Ok, Err, ⊤}
use Rattle.lite_read.specs.declared.read_to_end.ReadToEndFuture.{ReadToEndFuture}
use Rattle.lite_read.specs.Uses.{error_kind, Error, OutOfMemory, Poll, ReadMark, Runs}
use Rattle.lite_read.specs.ReadFold.{Gathers, GathersByRoom, ReadFold}

-- The vector of a `read_to_end` future. The bytes read so far are at its front, and room for the next read follows
-- them.

module _ {R A : Type 0} where
  -- The bytes in the vector up to `filled`: those that were there before the call, and those read so far. The room
  -- behind them is left out.
  abbrev pub read_front : ReadToEndFuture R A → List ℕ
  read_front x = take x.filled x.buf.now.items

  -- A poll keeps both references of the `read_to_end` future, to the reader and to the vector. It also keeps `start`,
  -- the length that the vector had before the call.
  pub record ToEndStays (x y : ReadToEndFuture R A) : Type 0 where
    pub reader : y.reader ≡ record x.reader { now = y.reader.now }
    pub buf : y.buf ≡ record x.buf { now = y.buf.now }
    pub start : y.start ≡ x.start

  -- From `x` to `y`, the number of filled bytes grows or stays, and so does the vector's capacity. `y.room` is at most
  -- the larger of `x.room` and twice the number of bytes read in between.
  pub record ToEndGrows (x y : ReadToEndFuture R A) : Type 0 where
    pub filled : x.filled ≤ y.filled
    pub within : y.filled ≤ length y.buf.now.items
    pub capacity : vec_capacity x.buf.now ≤ vec_capacity y.buf.now
    pub room : y.room ≤ max x.room (2 * (y.filled - x.filled))

  -- From `x` to `y`, the vector's length grows or stays, and so does its capacity. `y.room` is at most the larger of
  -- `x.room` and twice the number of bytes appended in between.
  pub record VectorGrows (x y : ReadToEndFuture R A) : Type 0 where
    pub items : length x.buf.now.items ≤ length y.buf.now.items
    pub capacity : vec_capacity x.buf.now ≤ vec_capacity y.buf.now
    pub room : y.room ≤ max x.room (2 * (length y.buf.now.items - length x.buf.now.items))

  -- The future can be polled: the bytes read so far are within the vector, and the reader's rank counts (`counting`),
  -- so its reads terminate.
  pub record CanAppend (counting : R → Type 0) (x : ReadToEndFuture R A) : Type 0 where
    pub started : x.start ≤ x.filled
    pub within : x.filled ≤ length x.buf.now.items
    pub counts : counting x.reader.now

-- The value of `read_to_end`, and the marks that produce it. At end of file it is `Ok` of the number of bytes appended
-- behind the first `start`. An error of the reader is the value. If `may_refuse` holds, it may be a failed allocation,
-- which takes no mark.
abbrev pub Appended : Type 0 → ℕ → List ℕ → List ReadMark → Result ℕ Error → Type 0
Appended may_refuse start g (ReadMark.end ∷ []) (Ok n) = length g ≡ start + n
Appended may_refuse start g (ReadMark.fault kind ∷ []) (Err e) = error_kind e ≡ kind
Appended may_refuse start g [] (Err e) = may_refuse × (error_kind e ≡ OutOfMemory)
Appended may_refuse start g marks r = ⊥

-- The fold of `read_to_end`: each byte is appended, up to end of file. An allocation may fail if `may_refuse` is true
-- of the bytes in the vector.
abbrev pub appends_where : (List ℕ → Type 0) → ℕ → ReadFold (List ℕ) (Result ℕ Error)
appends_where may_refuse start =
    record {
      takes = λ g b h. h ≡ g ++ b ∷ [];
      asks = λ g. ⊤;
      gives = λ g marks r h. Appended (may_refuse g) start g marks r × (h ≡ g);
    }

-- The fold of `read_to_end`, in which an allocation may fail at any time if `may_refuse` is true.
abbrev pub appends : Type 0 → ℕ → ReadFold (List ℕ) (Result ℕ Error)
appends may_refuse = appends_where (λ g. may_refuse)

-- The most bytes that the next read gets room for after `n` bytes were read: `room` of before, twice `n` or 32,
-- whichever is largest.
abbrev pub next_read : ℕ → ℕ → ℕ
next_read room n = max 32 (max room (2 * n))

-- The vector of `x` held `from` bytes, and is too small for `to` bytes and for the next read.
abbrev pub ToEndLacksRoom : {R A : Type 0} → ℕ → ℕ → ReadToEndFuture R A → Type 0
ToEndLacksRoom from to x = (n : ℕ) × (to ≡ from + n) × (vec_capacity x.buf.now < to + next_read x.room n)

module _ {R A : Type 0} (may_refuse : Type 0) (reads : Runs ReadMark R) where
  -- The run of `read_to_end`: the reader's marks are gathered into its vector. An allocation may fail if `may_refuse`
  -- is true.
  abbrev pub ReadsToEnd : Runs (Poll (Result ℕ Error)) (ReadToEndFuture R A)
  ReadsToEnd =
      Gathers (λ x. x.reader.now) (λ x. x.buf.now.items) (λ x. appends may_refuse x.start) ToEndStays reads

module _ {R A : Type 0} (reads : Runs ReadMark R) where
  -- The run of `read_to_end`, in which an allocation fails only if the vector lacked room (`ToEndLacksRoom`) for the
  -- bytes that are in it now and for the next read.
  abbrev pub ReadsToEndByRoom : Runs (Poll (Result ℕ Error)) (ReadToEndFuture R A)
  ReadsToEndByRoom =
      GathersByRoom (λ x. x.reader.now) (λ x. x.buf.now.items)
      (λ x y v. appends (ToEndLacksRoom (length x.buf.now.items) (length y.buf.now.items) x) v.start) ToEndStays
      VectorGrows reads
