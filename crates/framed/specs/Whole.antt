-- All frames of a reader, up to the end of its input.
use Rattle.std.specs.Prelude.{◌≡◌, ◌⊎◌, Bool, true, false, ℕ, List, [], ◌∷◌, ◌++◌, map, Some, Result, Ok, Err, ⊤}
use Rattle.std.specs.IoError.{error_kind}
use Rattle.std.specs.declared.io.Error.{Error}
use Rattle.std.specs.declared.io.ErrorKind.TheVariants.{OutOfMemory}
use Rattle.framed.specs.Uses.{ReadMark, bytes}
use Rattle.tokio_util.specs.Codec.Next.{Gives, Resumes, at_end, decoded}
use Rattle.tokio_util.specs.Codec.Whole.{ReadsAll}
use Rattle.framed.specs.Frames.{ReadFails}
use Rattle.framed.specs.declared.collect_error.CollectError.{CollectError}
use Rattle.framed.specs.declared.collect_error.CollectError.TheVariants.{Input, Memory}

-- The frames `items` come out of a decoder `c` over some bytes, in order, and leave it as `d` with the bytes `ys`. If
-- `ended`, no byte follows these, and so the last frames may be those of an end.
pub data ReadsTo {D X E : Type 0} (gives : Gives D X E) : Bool → D → List ℕ → List X → D → List ℕ → Type 0 where
  goes_on : (ended : Bool) (c : D) (xs : List ℕ) (d : D) (ys : List ℕ) → Resumes gives c xs d ys → ReadsTo gives ended c xs [] d ys
  whole : (ended : Bool) (c : D) (xs : List ℕ) (v : X) (t : D) (zs : List ℕ) (items : List X) (d : D) (ys : List ℕ) → gives c xs (decoded (Ok v) t zs) → ReadsTo gives ended t zs items d ys → ReadsTo gives ended c xs (v ∷ items) d ys
  at_last : (c : D) (xs : List ℕ) (v : X) (t : D) (zs : List ℕ) (items : List X) (d : D) (ys : List ℕ) → gives c xs (at_end (Ok (Some v)) t zs) → ReadsTo gives true t zs items d ys → ReadsTo gives true c xs (v ∷ items) d ys

-- The error says that memory was refused.
abbrev pub LacksMemory : {E : Type 0} → (Error → E → Type 0) → E → Type 0
LacksMemory from_gives e = (cause : Error) × from_gives cause e × (error_kind cause ≡ OutOfMemory)

-- Behind the bytes that were read comes nothing, or the end of the input if it was read.
abbrev pub NothingElse : Bool → List ReadMark → Type 0
NothingElse true last = last ≡ ReadMark.end ∷ []
NothingElse false last = last ≡ []

module _ {D X E : Type 0} (gives : Gives D X E) (from_gives : Error → E → Type 0) where
  -- The decoder refuses the bytes `ys`, as they are or as the end of the input.
  abbrev pub RefusesLast : D → List ℕ → E → Type 0
  RefusesLast d ys e = (t : D) × (zs : List ℕ)
      × (gives d ys (decoded (Err e) t zs) ⊎ gives d ys (at_end (Err e) t zs))

  -- Why no more frames came: the decoder refuses the bytes `ys`; or the reader failed, or memory was refused to the decoder.
  abbrev pub StopsAt : Bool → D → List ℕ → List ReadMark → E → Type 0
  StopsAt true d ys last e = (last ≡ ReadMark.end ∷ []) × RefusesLast d ys e
  StopsAt false d ys last e =
      ((last ≡ []) × (t : D) × (zs : List ℕ) × gives d ys (decoded (Err e) t zs)) ⊎ ReadFails from_gives last e

  -- What came of the marks `l` that the reader left, from a decoder `c` that held some bytes: the frames `frames`, in order. They
  -- are all frames up to the end of the input. Or an error came behind them. Or one more frame came, for which the vector had no
  -- room.
  abbrev pub Collects : D → List ℕ → List ReadMark → List X → Result (Unit {0}) (CollectError X E) → Type 0
  Collects c held l frames (Ok u) = (xs : List ℕ) × (l ≡ bytes xs ++ ReadMark.end ∷ []) × ReadsAll gives c (held ++ xs) (map Ok frames)
  Collects c held l frames (Err (Input e)) =
      (xs : List ℕ) × (last : List ReadMark) × (l ≡ bytes xs ++ last) × (d : D) × (ys : List ℕ)
      × (ended : Bool) × ReadsTo gives ended c (held ++ xs) frames d ys × StopsAt ended d ys last e
  Collects c held l frames (Err (Memory v)) =
      (xs : List ℕ) × (last : List ReadMark) × (l ≡ bytes xs ++ last) × (d : D) × (ys : List ℕ)
      × (ended : Bool) × ReadsTo gives ended c (held ++ xs) (frames ++ v ∷ []) d ys × NothingElse ended last

  -- The same, if the end of the input was read before: the frames are those of the bytes held.
  abbrev pub CollectsLast : D → List ℕ → List X → Result (Unit {0}) (CollectError X E) → Type 0
  CollectsLast c held frames (Ok u) = ReadsAll gives c held (map Ok frames)
  CollectsLast c held frames (Err (Input e)) = (d : D) × (ys : List ℕ) × ReadsTo gives true c held frames d ys × RefusesLast d ys e
  CollectsLast c held frames (Err (Memory v)) = (d : D) × (ys : List ℕ) × ReadsTo gives true c held (frames ++ v ∷ []) d ys

-- No frame was collected, and there is no error.
abbrev pub CollectsNone : {X E : Type 0} → List X → Result (Unit {0}) (CollectError X E) → Type 0
CollectsNone frames (Ok u) = frames ≡ []
CollectsNone frames (Err e) = ⊥

-- If the vector had no room for a frame.
abbrev pub IfNoRoom : {X E : Type 0} → Result (Unit {0}) (CollectError X E) → Type 0 → Type 0
IfNoRoom (Ok u) P = ⊤
IfNoRoom (Err (Input e)) P = ⊤
IfNoRoom (Err (Memory v)) P = P
