-- The frames of a reader: what one poll returns, by what the decoder gives of the bytes that were read.
use Rattle.std.specs.Prelude.{◌≡◌, ◌≢◌, ◌⊎◌, ◌+◌, ℕ, List, [], ◌∷◌, ◌++◌, length, Option, Some, None, Result, Ok, Err, ⊤}
use Rattle.std.specs.IoError.{error_kind}
use Rattle.std.specs.declared.io.Error.{Error}
use Rattle.std.specs.declared.io.ErrorKind.TheVariants.{OutOfMemory}
use Rattle.framed.specs.Uses.{Answer, Pending, Ranks, ReadMark, Ready, Runs, bytes}
use Rattle.lite_io_base.specs.Runs.{StandsFirst}
use Rattle.tokio_util.specs.Codec.Next.{Gives, Resumes, at_end, decoded, partial}
use Rattle.framed.specs.declared.framed_read.Stage.{Stage}
use Rattle.framed.specs.declared.framed_read.Stage.TheVariants.{AtEnd, Done, Fresh, Open}

-- How far the input of a framed reader is known: frames are read, or its end was read, or nothing more is given.
pub data Phase : Type 0 where
  reading : Phase
  ending : Phase
  ended : Phase

-- A framed reader: its reader and its decoder, the bytes of an open frame that were taken from the reader, and how far
-- the input is known.
pub record Framed (T D : Type 0) : Type 0 where
  pub reader : T
  pub decoder : D
  pub held : List ℕ
  pub phase : Phase

-- The bytes of an open frame. Before one the buffer has only a copy of what the reader shows.
abbrev pub held_at : Stage → List ℕ → List ℕ
held_at Fresh buffer = []
held_at Open buffer = buffer
held_at AtEnd buffer = buffer
held_at Done buffer = buffer

-- How far the input is known at a stage.
abbrev pub phase_of : Stage → Phase
phase_of Fresh = reading
phase_of Open = reading
phase_of AtEnd = ending
phase_of Done = ended

-- Before a frame the buffer is a front of what the reader shows. Within one it holds no whole frame.
abbrev pub InStep : {D X E : Type 0} → Gives D X E → D → Stage → List ℕ → List ℕ → Type 0
InStep gives c Fresh buffer shown = (rest : List ℕ) × (shown ≡ buffer ++ rest)
InStep gives c Open buffer shown = gives c buffer partial
InStep gives c AtEnd buffer shown = ⊤
InStep gives c Done buffer shown = ⊤

-- The error is made of the reader's, which is the mark `last`, or says that memory was refused.
abbrev pub ReadFails : {E : Type 0} → (Error → E → Type 0) → List ReadMark → E → Type 0
ReadFails from_gives last e = (cause : Error) × from_gives cause e
    × ((last ≡ ReadMark.fault (error_kind cause) ∷ []) ⊎ ((last ≡ []) × (error_kind cause ≡ OutOfMemory)))

module _ {T D X E : Type 0} (gives : Gives D X E) where
  -- Whatever comes out of `y` comes out of `x` after the bytes `xs`.
  abbrev pub ResumesAt : Framed T D → List ℕ → Framed T D → Type 0
  ResumesAt x xs y = Resumes gives x.decoder (x.held ++ xs) y.decoder y.held

  -- The bytes held and then `xs` are no whole frame.
  abbrev pub NoFrame : Framed T D → List ℕ → Framed T D → Type 0
  NoFrame x xs y = (y.phase ≡ reading) × gives y.decoder y.held partial × ResumesAt x xs y

  -- The bytes held and then `xs` are one frame, or the decoder refuses them. If no byte was taken for a frame, none was
  -- held.
  abbrev pub Found : Framed T D → List ℕ → Option (Result X E) → Framed T D → Type 0
  Found x xs None y = ⊥
  Found x xs (Some (Ok v)) y = (y.phase ≡ reading) × (y.held ≡ []) × (xs ≡ [] → x.held ≡ [])
      × gives x.decoder (x.held ++ xs) (decoded (Ok v) y.decoder [])
  Found x xs (Some (Err e)) y = (y.phase ≡ ended) × gives x.decoder (x.held ++ xs) (decoded (Err e) y.decoder y.held)

  -- What the bytes held and then `xs` give if no byte follows them.
  abbrev pub Last : Framed T D → List ℕ → Option (Result X E) → Framed T D → Type 0
  Last x xs None y = (y.phase ≡ ended) × gives x.decoder (x.held ++ xs) (at_end (Ok None) y.decoder y.held)
  Last x xs (Some (Ok v)) y = (y.phase ≡ ending) × (gives x.decoder (x.held ++ xs) (decoded (Ok v) y.decoder y.held)
      ⊎ gives x.decoder (x.held ++ xs) (at_end (Ok (Some v)) y.decoder y.held))
  Last x xs (Some (Err e)) y = (y.phase ≡ ended) × (gives x.decoder (x.held ++ xs) (decoded (Err e) y.decoder y.held)
      ⊎ gives x.decoder (x.held ++ xs) (at_end (Err e) y.decoder y.held))

  -- The bytes held and then `xs` are a frame only because no byte follows them.
  abbrev pub FoundAtEnd : Framed T D → List ℕ → X → Framed T D → Type 0
  FoundAtEnd x xs v y = (y.phase ≡ ending) × gives x.decoder (x.held ++ xs) (at_end (Ok (Some v)) y.decoder y.held)

  -- What is given after the end of the input, or after an error.
  abbrev pub AfterEnd : Framed T D → Option (Result X E) → Framed T D → Type 0
  AfterEnd x r y = ((x.phase ≡ ended) × (r ≡ None) × (y ≡ x))
      ⊎ ((x.phase ≡ ending) × Last x [] r y × (y.reader ≡ x.reader))

  module _ (from_gives : Error → E → Type 0) where
    -- What is returned after the bytes `xs` were taken from the reader, and then it left the mark `last`, or none. If the reader
    -- failed, the bytes before its error are no whole frame.
    abbrev pub PollGives : Framed T D → List ℕ → List ReadMark → Answer (Result X E) → Framed T D → Type 0
    PollGives x xs last Pending y = (last ≡ ReadMark.pending ∷ []) × NoFrame x xs y
    PollGives x xs last (Ready None) y = (last ≡ ReadMark.end ∷ []) × Last x xs None y
    PollGives x xs last (Ready (Some (Ok v))) y = ((last ≡ []) × Found x xs (Some (Ok v)) y)
        ⊎ ((last ≡ ReadMark.end ∷ []) × FoundAtEnd x xs v y)
    PollGives x xs last (Ready (Some (Err e))) y = ((last ≡ []) × Found x xs (Some (Err e)) y)
        ⊎ (((last ≡ ReadMark.end ∷ []) × Last x xs (Some (Err e)) y)
        ⊎ (ReadFails from_gives last e × (y.phase ≡ ended) × ResumesAt x xs y × (last ≢ [] → gives y.decoder y.held partial)))

    module _ (reads : Runs ReadMark T) where
      -- One poll.
      abbrev pub FrameStep : Framed T D → Answer (Result X E) → Framed T D → Type 0
      FrameStep x a y = ((r : Option (Result X E)) × (a ≡ Ready r) × AfterEnd x r y)
          ⊎ ((x.phase ≡ reading) × (xs : List ℕ) × (last : List ReadMark)
          × reads x.reader (bytes xs ++ last) y.reader × PollGives x xs last a y)

      -- What is known without a read, of the bytes held and those that the reader shows, `buffer_of`. It is `Pending` if all of
      -- them are no whole frame. Those shown are taken then.
      abbrev pub InHand : (T → List ℕ) → Framed T D → Answer (Result X E) → Framed T D → Type 0
      InHand buffer_of x Pending y = (x.phase ≡ reading) × reads x.reader (bytes (buffer_of x.reader)) y.reader
          × (buffer_of y.reader ≡ []) × NoFrame x (buffer_of x.reader) y
      InHand buffer_of x (Ready r) y = AfterEnd x r y
          ⊎ ((x.phase ≡ reading) × (xs : List ℕ) × reads x.reader (bytes xs) y.reader × StandsFirst xs (buffer_of x.reader)
          × PollGives x xs [] (Ready r) y)

      -- A look at some of the bytes that the reader shows, `buffer_of`. `Pending`: of those that were looked at came no whole frame,
      -- and they were taken. If any are shown, some were looked at.
      abbrev pub Looks : (T → List ℕ) → Framed T D → Answer (Result X E) → Framed T D → Type 0
      Looks buffer_of x Pending y = (xs : List ℕ) × reads x.reader (bytes xs) y.reader
          × (buffer_of x.reader ≡ xs ++ buffer_of y.reader) × (xs ≡ [] → buffer_of x.reader ≡ []) × NoFrame x xs y
      Looks buffer_of x (Ready r) y = InHand buffer_of x (Ready r) y

-- The rank: that of the reader, then whether the input goes on, then the bytes and the frames that are left.
abbrev pub phase_rank : {D : Type 0} → (D → ℕ) → Phase → D → List ℕ → List ℕ
phase_rank owes reading c held = 1 ∷ 0 ∷ owes c ∷ []
phase_rank owes ending c held = 0 ∷ length held ∷ owes c ∷ []
phase_rank owes ended c held = 0 ∷ 0 ∷ 0 ∷ []

-- The rank of a framed reader whose reader has one.
abbrev pub frame_ranks : {T D : Type 0} → (D → ℕ) → Ranks T → Ranks (Framed T D)
frame_ranks owes r =
    record {
      width = r.width + 3;
      rank = λ x. r.rank x.reader ++ phase_rank owes x.phase x.decoder x.held;
      counts = λ x. r.firm x.reader;
      firm = λ x. r.firm x.reader;
    }
