-- What a whole session read and wrote.
use Rattle.std.specs.Prelude.{◌≡◌, ◌≢◌, ◌⊎◌, ℕ, Bool, true, false, List, [], ◌∷◌, ◌++◌, Result, Ok, Err}
use Rattle.std.specs.IoError.{error_kind}
use Rattle.futures_lite.specs.Marks.{ReadMark, WriteMark, bytes, bytes_taken}
use Rattle.futures_lite.specs.Own.{Runs}
use Rattle.futures_lite.specs.Readers.{StandsFirst, ToldStripped}
use Rattle.futures_lite.specs.Writers.{EndsFlushed, FailsWith, WritesAndFlushes}
use Rattle.http.specs.declared.request.Request.{Request}
use Rattle.http_server.specs.declared.response.Response.{Response}
use Rattle.http_server.specs.declared.state.Config.{Config}
use Rattle.http_server.specs.declared.state.State.TheVariants.{Aborted}
use Rattle.http_server.specs.Exchange.{Calls, Chain}
use Rattle.http_server.specs.History.{History, IsDone, IsServed, new_history, output}
use Rattle.example_http.specs.Moving.{Moved}
use Rattle.example_http.specs.Serving.{HttpSession}
use Rattle.example_http.specs.declared.http_error.HttpError.{HttpError}
use Rattle.example_http.specs.declared.http_error.HttpError.TheVariants.{Input, Memory, Output}

-- What a reader told a connection: the bytes `xs`, and an end of file if the connection has seen one now. If it had seen
-- one before (`true`), nothing more was read.
abbrev pub Tells : Bool → Bool → List ℕ → List ReadMark → Type 0
Tells true now xs told = (now ≡ true) × (xs ≡ []) × (told ≡ [])
Tells false false xs told = told ≡ bytes xs
Tells false true xs told = told ≡ bytes xs ++ ReadMark.end ∷ []

-- What the reader told up to the end of a session. An error of the reader came last. If memory was refused, there may be an
-- end of file that the connection has not seen.
abbrev pub ReadAt : Bool → Bool → List ℕ → List ReadMark → Result (Unit {0}) HttpError → Type 0
ReadAt was now xs told (Ok u) = Tells was now xs told
ReadAt was now xs told (Err (Input e)) = (was ≡ false) × (told ≡ bytes xs ++ ReadMark.fault (error_kind e) ∷ [])
ReadAt was now xs told (Err (Output e)) = Tells was now xs told
ReadAt was now xs told (Err Memory) =
    Tells was now xs told ⊎ ((was ≡ false) × (told ≡ bytes xs ++ ReadMark.end ∷ []))

-- All that the connection had to send was taken by the writer, whose bytes are `taken`, and counts as sent.
abbrev pub IsSent : History → List ℕ → History → Type 0
IsSent h taken k = (k.sent ≡ h.sent ++ taken) × (k.pending ≡ [])

-- What was written when a session ends. At an error of the writer it took a prefix of what there was to send, and the
-- error is its last mark. Else it took all of that, had no error, and was flushed at last.
abbrev pub WrittenAt : History → Moved → Result (Unit {0}) HttpError → History → Type 0
WrittenAt h moved (Ok u) k = IsSent h (bytes_taken moved.took) k × WritesAndFlushes moved.took × EndsFlushed moved.took
    × IsDone k × (k.state ≢ Aborted)
WrittenAt h moved (Err (Input e)) k = IsSent h (bytes_taken moved.took) k × WritesAndFlushes moved.took
    × EndsFlushed moved.took
WrittenAt h moved (Err (Output e)) k = StandsFirst (h.sent ++ bytes_taken moved.took) (output k) × FailsWith moved.took e
WrittenAt h moved (Err Memory) k = IsSent h (bytes_taken moved.took) k × WritesAndFlushes moved.took
    × EndsFlushed moved.took

module _ {T O S : Type 0} (config : Config) (reads : Runs ReadMark T) (writes : Runs WriteMark O)
    (answers : S → Request (List ℕ) → Response → S → Type 0) where
  -- The connection received the bytes `came`, which the reader told. The service went by its calls. What was sent answers
  -- what was received (`served`).
  pub record WholeSession (x : HttpSession T O S) (moved : Moved) (r : Result (Unit {0}) HttpError) (y : HttpSession T O S) : Type 0 where
    pub read : ToldStripped reads x.reader moved.told y.reader
    pub came : List ℕ
    pub received : y.history.received ≡ x.history.received ++ came
    pub tells : ReadAt x.history.ended y.history.ended came moved.told r
    pub wrote : writes x.writer moved.took y.writer
    pub calls : Calls answers x.service y.service x.history.calls y.history.calls
    pub served : ∥ IsServed config y.history ∥₁
    pub written : WrittenAt x.history moved r y.history

-- A session over a new connection, from the service `s` to the service `t`. By `served` the bytes that the connection sent
-- are answers to the requests in the bytes that it received.
pub record Conversation {S : Type 0} (config : Config) (answers : S → Request (List ℕ) → Response → S → Type 0) (s : S)
    (moved : Moved) (r : Result (Unit {0}) HttpError) (t : S) : Type 0 where
  pub history : History
  pub served : ∥ IsServed config history ∥₁
  pub tells : ReadAt false history.ended history.received moved.told r
  pub calls : Chain answers s history.calls t
  pub written : WrittenAt new_history moved r history
