-- The `write_all` future: bytes are passed to a writer from the front, until it has taken all.
use Rattle.std.specs.Prelude.{◌≡◌, ◌<◌, ℕ, List, ◌++◌, length, [], ◌∷◌, Result, Ok, Err, ⊤}
use Rattle.lite_write.specs.Uses.{error_kind, Error, WriteZero, Poll, Ready, Pending, WriteMark, Runs}
use Rattle.lite_base.specs.Runs.{Question}
use Rattle.lite_base.specs.Segments.{Segment, SegmentsToValue}
use Rattle.lite_write.specs.declared.write_all.WriteAllFuture.{WriteAllFuture}

-- How bytes are passed to a writer.

-- A writer takes `xs`, at least one byte from the front of those offered, and `left` are left.
abbrev pub Hands : List ℕ → List ℕ → List ℕ → Type 0
Hands offered xs left = (0 < length xs) × (offered ≡ xs ++ left)

-- The value of `write_all`, and the marks that produce it. It is `Ok` if no byte is left, without another mark. With
-- bytes left, a write that took none is a `WriteZero` error, and an error of the writer is the value.
abbrev pub Ended : List ℕ → List WriteMark → Result (Unit {0}) Error → Type 0
Ended left [] r = (left ≡ []) × (r ≡ Ok tt)
Ended left (WriteMark.wrote [] ∷ []) (Err e) = (0 < length left) × (error_kind e ≡ WriteZero)
Ended left (WriteMark.fault kind ∷ []) (Err e) = (0 < length left) × (error_kind e ≡ kind)
Ended left marks r = ⊥

-- The last marks of one poll: a `Pending` while bytes are left, or the marks that produce the value.
abbrev pub LastTaken : Question (List ℕ) (List WriteMark) (Poll (Result (Unit {0}) Error))
LastTaken left marks Pending after = (marks ≡ WriteMark.pending ∷ []) × (0 < length left) × (after ≡ left)
LastTaken left marks (Ready r) after = Ended left marks r × (after ≡ left)

-- The marks of one poll: writes that each take some bytes, and then the last marks (`LastTaken`).
abbrev pub HandsMarks : Question (List ℕ) (List WriteMark) (Poll (Result (Unit {0}) Error))
HandsMarks = Segment WriteMark.wrote Hands LastTaken

-- The marks of all polls, cut into one segment for each poll, up to a value.
abbrev pub HandsOver : List ℕ → List WriteMark → List (Poll (Result (Unit {0}) Error)) → List ℕ → Type 0
HandsOver = SegmentsToValue HandsMarks

module _ {W : Type 0} (writes : Runs WriteMark W) where
  -- The run of `write_all`: the writer's marks are cut into segments, one for each poll. The future keeps its
  -- reference. Without a poll it is unchanged.
  pub record WritesAll (x : WriteAllFuture W) (out : List (Poll (Result (Unit {0}) Error)))
      (y : WriteAllFuture W) : Type 0 where
    pub marks : List WriteMark
    pub came : writes x.writer.now marks y.writer.now
    pub handed : HandsOver x.buf.now marks out y.buf.now
    pub stays : y.writer ≡ record x.writer { now = y.writer.now }
    pub idle : out ≡ [] → y ≡ x

-- The steps within one poll of `write_all`.

-- One step within a poll of `write_all` that does not yet return: a write takes at least one byte from the front.
pub record WritesSome {W : Type 0} (writes : Runs WriteMark W) (x y : WriteAllFuture W) : Type 0 where
  pub taken : List ℕ
  pub some : 0 < length taken
  pub came : writes x.writer.now (WriteMark.wrote taken ∷ []) y.writer.now
  pub front : x.buf.now ≡ taken ++ y.buf.now
  pub stays : y.writer ≡ record x.writer { now = y.writer.now }

-- The runs of a writer in which no write fails and each takes at least one byte.

-- No mark is an error, and no write took zero bytes of some. Then `write_all` returns `Ok` in the end.
abbrev pub NoFailure : List WriteMark → Type 0
NoFailure [] = ⊤
NoFailure (WriteMark.wrote [] ∷ l) = ⊥
NoFailure (WriteMark.fault kind ∷ l) = ⊥
NoFailure (_ ∷ l) = NoFailure l

-- The writer's runs without such a failure.
abbrev pub WithoutFailure : {W : Type 0} → Runs WriteMark W → Runs WriteMark W
WithoutFailure writes x l y = writes x l y × NoFailure l

-- No run of the writer has such a failure.
abbrev pub NoneFails : {W : Type 0} → Runs WriteMark W → Type 0
NoneFails {W} writes = (x y : W) (l : List WriteMark) → writes x l y → NoFailure l
