-- How bytes move between a connection and its reader and writer.
use Rattle.std.specs.Prelude.{◌≡◌, ◌≢◌, ◌<◌, ◌⊎◌, ℕ, List, [], ◌∷◌, take, Result, Ok, Err}
use Rattle.std.specs.IoError.{error_kind}
use Rattle.std.specs.declared.io.Error.{Error}
use Rattle.futures_lite.specs.Marks.{ReadMark, WriteMark, bytes, bytes_taken, filled_marks}
use Rattle.futures_lite.specs.Own.{Runs}
use Rattle.futures_lite.specs.Readers.{StandsFirst, ToldStripped}
use Rattle.futures_lite.specs.Writers.{FlushedUp, HandedUp, TakesFront}
use Rattle.http_server.specs.History.{History, after_read, after_sent}
use Rattle.example_http.specs.declared.http_error.HttpError.{HttpError}
use Rattle.example_http.specs.declared.http_error.HttpError.TheVariants.{Input, Memory, Output}

-- The marks of the reader, and those of the writer.
pub record Moved : Type 0 where
  pub told : List ReadMark
  pub took : List WriteMark

-- The marks of a read that moved these bytes. One that moved none met the end of file.
abbrev pub arrived : List ℕ → List ReadMark
arrived [] = ReadMark.end ∷ []
arrived (x ∷ xs) = bytes (x ∷ xs)

module _ {O : Type 0} (writes : Runs WriteMark O) where
  -- The writer was flushed, or the flush failed. It took no byte.
  abbrev pub FlushesOutput : O → List WriteMark → Result (Unit {0}) Error → O → Type 0
  FlushesOutput w took r v = writes w took v × FlushedUp took r × (bytes_taken took ≡ [])

  -- The first `n` of the bytes that wait, at least one, were written, and count as sent. Or a write failed after a prefix of
  -- them, and none counts as sent.
  abbrev pub WritesOutput : O → History → List WriteMark → Result (Unit {0}) Error → O → History → Type 0
  WritesOutput w h took (Ok u) v k =
      (n : ℕ) × (0 < n) × writes w took v × HandedUp (take n h.pending) took (Ok u) × (k ≡ after_sent h n)
  WritesOutput w h took (Err e) v k =
      (n : ℕ) × TakesFront writes w (take n h.pending) took v × HandedUp (take n h.pending) took (Err e) × (k ≡ h)

module _ {T : Type 0} (reads : Runs ReadMark T) (buffer_of : T → List ℕ) where
  -- The connection received the first of the bytes that the reader shows. It received none only if the reader shows none.
  abbrev pub TakesInput : T → History → Result (Unit {0}) HttpError → T → History → Type 0
  TakesInput x h (Ok u) y k = (xs : List ℕ) × reads x (bytes xs) y × StandsFirst xs (buffer_of x) × (xs ≡ [] → buffer_of x ≡ [])
      × (k ≡ after_read h xs)
  TakesInput x h (Err Memory) y k = (y ≡ x) × (k ≡ h)
  TakesInput x h (Err (Input e)) y k = ⊥
  TakesInput x h (Err (Output e)) y k = ⊥

module _ {T O : Type 0} (reads : Runs ReadMark T) (buffer_of : T → List ℕ) (writes : Runs WriteMark O) where
  -- The writer was flushed, and then the reader was filled.
  abbrev pub Refills : T → O → Moved → Result (Unit {0}) HttpError → T → O → Type 0
  Refills x w moved (Ok u) y v = FlushesOutput writes w moved.took (Ok u) v × ToldStripped reads x moved.told y
      × (moved.told ≡ filled_marks (buffer_of y))
  Refills x w moved (Err (Input e)) y v = FlushesOutput writes w moved.took (Ok tt) v × ToldStripped reads x moved.told y
      × (moved.told ≡ ReadMark.fault (error_kind e) ∷ [])
  Refills x w moved (Err (Output e)) y v = FlushesOutput writes w moved.took (Err e) v × (y ≡ x) × (moved.told ≡ [])
  Refills x w moved (Err Memory) y v = ⊥

  -- The writer was flushed. Or the reader shows bytes, so that no read waits, and nothing was done to the writer.
  abbrev pub FlushesFirst : T → O → List WriteMark → O → Type 0
  FlushesFirst x w took v = FlushesOutput writes w took (Ok tt) v ⊎ ((buffer_of x ≢ []) × (took ≡ []) × (v ≡ w))

  -- More was received: the bytes `xs`, or the end of file if there are none. The writer was flushed before, unless bytes
  -- had been shown. At an error nothing was received, and the writer was flushed, or its flush failed.
  abbrev pub ReceivesBytes : T → O → History → Moved → Result (Unit {0}) HttpError → T → O → History → Type 0
  ReceivesBytes x w h moved (Ok u) y v k = (xs : List ℕ) × FlushesFirst x w moved.took v × ToldStripped reads x moved.told y
      × (moved.told ≡ arrived xs) × (k ≡ after_read h xs)
  ReceivesBytes x w h moved (Err (Input e)) y v k = FlushesOutput writes w moved.took (Ok tt) v × ToldStripped reads x moved.told y
      × (moved.told ≡ ReadMark.fault (error_kind e) ∷ []) × (k ≡ h)
  ReceivesBytes x w h moved (Err (Output e)) y v k =
      FlushesOutput writes w moved.took (Err e) v × (y ≡ x) × (moved.told ≡ []) × (k ≡ h)
  ReceivesBytes x w h moved (Err Memory) y v k = FlushesOutput writes w moved.took (Ok tt) v × ToldStripped reads x moved.told y
      × ((moved.told ≡ []) ⊎ (moved.told ≡ ReadMark.end ∷ [])) × (k ≡ h)
