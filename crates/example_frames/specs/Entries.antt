-- Entries on a reader: the name in a line, and then the body with its length before it.
use Rattle.std.specs.Prelude.{◌≡◌, ◌⊎◌, ◌<◌, ℕ, Bool, List, [], ◌∷◌, ◌++◌, length, Option, Some, None, Result, Ok, Err, String}
use Rattle.std.specs.declared.alloc.Global.{Global}
use Rattle.std.specs.declared.io.Error.{Error}
use Rattle.std.specs.declared.vec.Vec.{Vec}
use Rattle.futures_lite.specs.Marks.{ReadMark, bytes}
use Rattle.futures_lite.specs.Own.{Runs}
use Rattle.futures_lite.specs.Readers.{ToldStripped}
use Rattle.framed.specs.LengthDelimited.{FrameOf, gives_delimited}
use Rattle.framed.specs.Whole.{StopsAt}
use Rattle.framed.specs.declared.FrameError.{FrameError}
use Rattle.framed.specs.declared.FrameError.TheVariants.{Io as Failed}
use Rattle.framed.specs.declared.LengthDelimited.{LengthDelimited}
use Rattle.tokio_util.specs.Codec.Lines.{at_line_start, gives_lines}
use Rattle.tokio_util.specs.declared.codec.lines_codec.LinesCodec.{LinesCodec}
use Rattle.tokio_util.specs.declared.codec.lines_codec.LinesCodecError.TheVariants.{Io}
use Rattle.tokio_util.specs.Codec.Next.{Gives, at_end, decoded}
use Rattle.example_frames.specs.declared.entries.Entry.{Entry}
use Rattle.example_frames.specs.declared.entries.EntryError.{EntryError}
use Rattle.example_frames.specs.declared.entries.EntryError.TheVariants.{Body, CutOff, Memory, Name}
use Rattle.example_frames.specs.declared.entries.First.{First}
use Rattle.example_frames.specs.declared.entries.First.TheVariants.{Broken, Ended, Frame}
use Rattle.example_frames.specs.declared.entries.TheConstants.{BODY_LIMIT, NAME_LIMIT}

module _ {T D X E : Type 0} (gives : Gives D X E) (from_gives : Error → E → Type 0) (reads : Runs ReadMark T) where
  -- The reader produced the bytes `xs`, and then the marks `last`. The decoder refuses these bytes, or the reader failed, or
  -- memory was refused.
  abbrev pub StopsWithCause : T → D → List ℕ → List ReadMark → E → T → Type 0
  StopsWithCause x c xs last e y = ToldStripped reads x (bytes xs ++ last) y × (ended : Bool) × StopsAt gives from_gives ended c xs last e

  -- The reader produced just the bytes of a frame, or all bytes that it had and the end of file. If that is within a frame,
  -- the decoder gives a frame of these bytes only because the input ends.
  abbrev pub BeginsWith : T → D → Result (First X) E → T → Type 0
  BeginsWith x c (Ok (Frame v)) y =
      (xs : List ℕ) × ToldStripped reads x (bytes xs) y × (d : D) × gives c xs (decoded (Ok v) d [])
  BeginsWith x c (Ok Ended) y = (xs : List ℕ) × ToldStripped reads x (bytes xs ++ ReadMark.end ∷ []) y
      × (d : D) × (ys : List ℕ) × gives c xs (at_end (Ok None) d ys)
  BeginsWith x c (Ok Broken) y = (xs : List ℕ) × ToldStripped reads x (bytes xs ++ ReadMark.end ∷ []) y
      × (v : X) × (d : D) × (ys : List ℕ) × gives c xs (at_end (Ok (Some v)) d ys)
  BeginsWith x c (Err e) y = (xs : List ℕ) × (last : List ReadMark) × StopsWithCause x c xs last e y

-- The bytes of a line with this name, through its newline.
abbrev pub HeadOf : String Global → List ℕ → Type 0
HeadOf name xs = (d : LinesCodec) × gives_lines (at_line_start NAME_LIMIT) xs (decoded (Ok name) d [])

-- A codec of bodies.
abbrev pub bodies : LengthDelimited
bodies = record { max = BODY_LIMIT }

-- The bytes of an entry: those of its line, and then those of its body's frame.
pub record EntryOf (e : Entry) (xs : List ℕ) : Type 0 where
  pub head : List ℕ
  pub frame : List ℕ
  pub line : HeadOf e.name head
  pub body : FrameOf bodies e.body.items frame
  pub cut : xs ≡ head ++ frame

-- The bytes of these entries, one behind another.
abbrev pub EntriesOf : List Entry → List ℕ → Type 0
EntriesOf [] xs = xs ≡ []
EntriesOf (e ∷ es) xs = (front : List ℕ) × (rest : List ℕ) × EntryOf e front × EntriesOf es rest × (xs ≡ front ++ rest)

-- Bytes in which no line begins, if the input ends behind them: none, or a carriage return.
abbrev pub HasNoLine : List ℕ → Type 0
HasNoLine xs = (d : LinesCodec) × (ys : List ℕ) × gives_lines (at_line_start NAME_LIMIT) xs (at_end (Ok None) d ys)

-- Bytes of a name without its newline, if the input ends behind them; or of a line with a name, and nothing behind it.
abbrev pub IsCutOff : List ℕ → Type 0
IsCutOff xs = (name : String Global)
    × (((d : LinesCodec) × (ys : List ℕ) × gives_lines (at_line_start NAME_LIMIT) xs (at_end (Ok (Some name)) d ys)) ⊎ HeadOf name xs)

module _ {T : Type 0} (reads : Runs ReadMark T) where
  -- The line of a name was read, and then came this error of its body.
  abbrev pub StopsInBody : T → FrameError → T → Type 0
  StopsInBody x e y = (last : List ReadMark) × (xs : List ℕ)
      × StopsWithCause gives_delimited (λ given error. error ≡ Failed given) reads x bodies xs last e y

  -- The reader produced just the bytes of one entry; or the end of file, before which no line began. An error is that of the
  -- name or, behind the line of a name, that of the body; or the input was cut off.
  abbrev pub ReadsEntry : T → Result (Option Entry) EntryError → T → Type 0
  ReadsEntry x (Ok (Some e)) y = (xs : List ℕ) × ToldStripped reads x (bytes xs) y × EntryOf e xs
  ReadsEntry x (Ok None) y = (xs : List ℕ) × ToldStripped reads x (bytes xs ++ ReadMark.end ∷ []) y × HasNoLine xs
  ReadsEntry x (Err CutOff) y = (xs : List ℕ) × ToldStripped reads x (bytes xs ++ ReadMark.end ∷ []) y × IsCutOff xs
  ReadsEntry x (Err (Name e)) y = (xs : List ℕ) × (last : List ReadMark)
      × StopsWithCause gives_lines (λ given error. error ≡ Io given) reads x (at_line_start NAME_LIMIT) xs last e y
  ReadsEntry x (Err (Body e)) y = (head : List ℕ) × (name : String Global) × HeadOf name head
      × (m : T) × ToldStripped reads x (bytes head) m × StopsInBody m e y
  ReadsEntry x (Err Memory) y = ⊥

  -- The same behind the line of a name.
  abbrev pub ReadsBody : String Global → T → Result (Option Entry) EntryError → T → Type 0
  ReadsBody name x (Ok (Some e)) y = (xs : List ℕ) × ToldStripped reads x (bytes xs) y × (e.name ≡ name)
      × FrameOf bodies e.body.items xs
  ReadsBody name x (Ok None) y = ⊥
  ReadsBody name x (Err CutOff) y = ToldStripped reads x (ReadMark.end ∷ []) y
  ReadsBody name x (Err (Name e)) y = ⊥
  ReadsBody name x (Err (Body e)) y = StopsInBody x e y
  ReadsBody name x (Err Memory) y = ⊥

  -- The reader produced the bytes of all these entries, and then the end of file. Or it produced those of some entries, and
  -- then came the error; or memory was refused for them.
  abbrev pub ReadsEntries : T → Result (Vec Entry Global) EntryError → T → Type 0
  ReadsEntries x (Ok all) y = (xs : List ℕ) × (rest : List ℕ)
      × ToldStripped reads x (bytes (xs ++ rest) ++ ReadMark.end ∷ []) y × EntriesOf all.items xs × HasNoLine rest
  ReadsEntries x (Err e) y = (xs : List ℕ) × (m : T) × ToldStripped reads x (bytes xs) m × (before : List Entry) × EntriesOf before xs
      × (ReadsEntry m (Err e) y ⊎ ((e ≡ Memory) × (m ≡ y) × (0 < length before)))
