-- The steps within one poll of a future that reads: those that do not yet return, and how a poll of `read_to_end`
-- returns.
use Rattle.std.specs.Prelude.{◌≤◌, ◌<◌, ℕ, List, [], ◌∷◌, length, Result, ◌≡◌, string_bytes}
use Rattle.lite_read.specs.Uses.{FoldsTo, Error, Poll, ReadMark, bytes, Runs}
use Rattle.lite_read.specs.ReadToEnd as appending
use Rattle.lite_read.specs.ReadToEnd.{read_front, ToEndLacksRoom, appends}
use Rattle.lite_read.specs.ReadExact as filling
use Rattle.lite_read.specs.ReadExact.{filling_of, fills}
use Rattle.lite_read.specs.ReadFold.{Gathers, GathersByRoom, ReadFold}
use Rattle.lite_read.specs.declared.read_exact.ReadExactFuture.{ReadExactFuture}
use Rattle.lite_read.specs.declared.read_to_end.ReadToEndFuture.{ReadToEndFuture}
use Rattle.lite_read.specs.ReadUntil.{UntilStays, read_of, until}
use Rattle.lite_read.specs.Segments.{StreamOver}
use Rattle.lite_read.specs.declared.read_until.ReadUntilFuture.{ReadUntilFuture}
use Rattle.lite_read.specs.Holding.{TextOver, TextStays}
use Rattle.lite_read.specs.Texts.{ReadsText, ReadsTextByRoom}

module _ {X S M R : Type 0} (reader : X → S) (held : X → M) (fold : X → ReadFold M R) (Keeps : X → X → Type 0)
    (reads : Runs ReadMark S) where
  -- One step that does not yet return: the reader produced at least one byte, and the fold consumed all bytes that it
  -- produced. `Keeps` relates the future before and after.
  pub record TakesBytes (x y : X) : Type 0 where
    pub taken : List ℕ
    pub some : 0 < length taken
    pub came : reads (reader x) (bytes taken) (reader y)
    pub folds : FoldsTo (fold x).takes (held x) taken (held y)
    pub stays : Keeps x y

-- One step within a poll of `read_exact` that does not yet return: bytes are consumed.
abbrev pub ReadsMore : {R : Type 0} → Runs ReadMark R → ReadExactFuture R → ReadExactFuture R → Type 0
ReadsMore = TakesBytes (λ x. x.reader.now) filling_of (λ x. fills) filling.ExactStays

module _ {R A : Type 0} (may_refuse : Type 0) (reads : Runs ReadMark R) where
  -- One step within a poll of `read_to_end` that does not yet return: bytes are consumed.
  abbrev pub ReadsSome : ReadToEndFuture R A → ReadToEndFuture R A → Type 0
  ReadsSome =
      TakesBytes (λ x. x.reader.now) read_front (λ x. appends may_refuse x.start)
      (λ x y. appending.ToEndStays x y × appending.ToEndGrows x y) reads

  -- The result of a poll of `read_to_end`, before the unused room behind the bytes read is truncated.
  abbrev pub AnswersUntrimmed : ReadToEndFuture R A → Poll (Result ℕ Error) → ReadToEndFuture R A → Type 0
  AnswersUntrimmed x a =
      Gathers (λ x. x.reader.now) read_front (λ x. appends may_refuse x.start) appending.ToEndStays reads x (a ∷ [])

module _ {R A : Type 0} (reads : Runs ReadMark R) where
  -- Like `AnswersUntrimmed`, and an allocation fails only if the vector lacked room (`ToEndLacksRoom`). The bytes read
  -- are within the vector.
  abbrev pub AnswersByRoom : ReadToEndFuture R A → Poll (Result ℕ Error) → ReadToEndFuture R A → Type 0
  AnswersByRoom x a y =
      GathersByRoom (λ x. x.reader.now) read_front (λ x y v. appends (ToEndLacksRoom x.filled y.filled x) v.start)
      appending.ToEndStays appending.ToEndGrows reads x (a ∷ []) y × (y.filled ≤ length y.buf.now.items)

-- The steps within one poll of `read_until`, `split` and `lines` that do not yet return: bytes are consumed.

-- One step within a poll of `read_until` that does not yet return: bytes are consumed.
abbrev pub AppendsMore : {R : Type 0} → Runs ReadMark R → Type 0 → ReadUntilFuture R → ReadUntilFuture R → Type 0
AppendsMore reads may_refuse = TakesBytes (λ x. x.reader.now) read_of (λ x. until x.byte may_refuse) UntilStays reads

-- One step within a poll of `split` or `lines` that does not yet return: bytes are consumed, and the buffer's capacity
-- does not shrink.
abbrev pub TakesPieceIn : {X S M K R : Type 0} → StreamOver X S M K → (K → ReadFold M R) → Runs ReadMark S → X → X
    → Type 0
TakesPieceIn over fold =
    TakesBytes over.reader over.held (λ x. fold (over.kept x))
    (λ x y. (over.kept y ≡ over.kept x) × (over.room x ≤ over.room y))

-- The steps within one poll of a future that reads into a text.

module _ {X R A : Type 0} (over : TextOver X R A) (fold : ReadFold (List ℕ) (Result ℕ Error)) where
  -- One step that does not yet return: bytes are consumed, the text is unchanged, and the future's memory does not
  -- shrink.
  abbrev pub TakesTextIn : Runs ReadMark R → X → X → Type 0
  TakesTextIn =
      TakesBytes (λ x. (over.reader x).now) over.read (λ x. fold)
      (λ x y. TextStays over x y × (string_bytes (over.text y).now ≡ string_bytes (over.text x).now) × over.holds y
      × over.grows x y)

  -- One poll result: it is a run of the future by `ReadsText`, and leaves what is true before each poll.
  abbrev pub AnswersText : Runs ReadMark R → X → Poll (Result ℕ Error) → X → Type 0
  AnswersText reads x a y = ReadsText over fold reads x (a ∷ []) y × over.holds y

module _ {X R A : Type 0} (over : TextOver X R A) (fold : (List ℕ → Type 0) → ReadFold (List ℕ) (Result ℕ Error))
    (lacks : X → X → List ℕ → Type 0) where
  -- Like `AnswersText`, and an allocation fails only if the memory was too small (`lacks`).
  abbrev pub AnswersTextByRoom : Runs ReadMark R → X → Poll (Result ℕ Error) → X → Type 0
  AnswersTextByRoom reads x a y = ReadsTextByRoom over fold lacks reads x (a ∷ []) y × over.holds y
