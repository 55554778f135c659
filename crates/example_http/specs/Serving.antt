-- A session of the server: whole steps, of which each answers what was received, and then moves bytes one way.
use Rattle.std.specs.Prelude.{◌≡◌, ◌≢◌, ◌⊎◌, ℕ, Bool, true, false, List, [], Result, Ok, Err}
use Rattle.std.specs.List.{FoldsTo}
use Rattle.std.specs.declared.io.Error.{Error}
use Rattle.futures_lite.specs.Marks.{ReadMark, WriteMark}
use Rattle.futures_lite.specs.Own.{Runs}
use Rattle.http.specs.declared.request.Request.{Request}
use Rattle.http_server.specs.declared.response.Response.{Response}
use Rattle.http_server.specs.declared.state.Config.{Config}
use Rattle.http_server.specs.declared.state.State.TheVariants.{Aborted, Open}
use Rattle.http_server.specs.Exchange.{Calls}
use Rattle.http_server.specs.History.{History, IsDone, IsQuiet, IsServed, Rests}
use Rattle.example_http.specs.declared.http_error.HttpError.{HttpError}
use Rattle.example_http.specs.declared.http_error.HttpError.TheVariants.{Input, Memory, Output}
use Rattle.example_http.specs.Moving.{FlushesOutput, Moved, ReceivesBytes, WritesOutput}

-- What a server goes on with: the reader, the writer, the service, and what its connection has done.
pub record HttpSession (T O S : Type 0) : Type 0 where
  pub reader : T
  pub writer : O
  pub service : S
  pub history : History

-- The connection is open, and nothing waits to be sent.
abbrev pub IsWaiting : History → Type 0
IsWaiting h = (h.state ≡ Open) × (h.pending ≡ [])

-- Whether memory was refused to a connection that is done.
abbrev pub IsOutcome : History → Result (Unit {0}) HttpError → Type 0
IsOutcome h (Ok u) = h.state ≢ Aborted
IsOutcome h (Err Memory) = h.state ≡ Aborted
IsOutcome h (Err (Input e)) = ⊥
IsOutcome h (Err (Output e)) = ⊥

module _ {T O S : Type 0} (config : Config) (reads : Runs ReadMark T) (buffer_of : T → List ℕ) (writes : Runs WriteMark O)
    (answers : S → Request (List ℕ) → Response → S → Type 0) where
  -- The service was called for requests that had been received, one after the other. No byte moved. What there is to send
  -- answers what was received (`served`). If there is room for more, each whole request has its answer (`rests`).
  pub record AnswersGiven (x y : HttpSession T O S) : Type 0 where
    pub calls : Calls answers x.service y.service x.history.calls y.history.calls
    pub quiet : IsQuiet x.history y.history
    pub served : ∥ IsServed config y.history ∥₁
    pub rests : Rests config y.history
    pub reader : y.reader ≡ x.reader
    pub writer : y.writer ≡ x.writer

  -- What waits was written, or a first part of it. The reader and the service stay.
  abbrev pub HandsOutput : HttpSession T O S → Moved → Result (Unit {0}) Error → HttpSession T O S → Type 0
  HandsOutput x moved r y = WritesOutput writes x.writer x.history moved.took r y.writer y.history
      × (moved.told ≡ []) × (y.reader ≡ x.reader) × (y.service ≡ x.service)

  -- The connection is done, and the writer was flushed. All else stays.
  abbrev pub ClosesSession : HttpSession T O S → Moved → Result (Unit {0}) Error → HttpSession T O S → Type 0
  ClosesSession x moved r y = IsDone x.history × FlushesOutput writes x.writer moved.took r y.writer × (y.history ≡ x.history)
      × (moved.told ≡ []) × (y.reader ≡ x.reader) × (y.service ≡ x.service)

  -- The connection waited for input, and more was received. The service stays.
  abbrev pub TakesMoreInput : HttpSession T O S → Moved → Result (Unit {0}) HttpError → HttpSession T O S → Type 0
  TakesMoreInput x moved r y = IsWaiting x.history
      × ReceivesBytes reads buffer_of writes x.reader x.writer x.history moved r y.reader y.writer y.history
      × (y.service ≡ x.service)

  -- What was received is answered. Then something is written, or, if nothing waits, more is received.
  abbrev pub HttpStep : HttpSession T O S → Moved → HttpSession T O S → Type 0
  HttpStep x moved y = (m : HttpSession T O S) × AnswersGiven x m × (HandsOutput m moved (Ok tt) y ⊎ TakesMoreInput m moved (Ok tt) y)

  -- What was received is answered. Then the connection is done, and the writer is flushed.
  abbrev pub FinishesSession : HttpSession T O S → Moved → HttpSession T O S → Type 0
  FinishesSession x moved y = (m : HttpSession T O S) × AnswersGiven x m × ClosesSession m moved (Ok tt) y

  -- What was received is answered. Then the connection is done, or an error comes.
  abbrev pub EndsSession : HttpSession T O S → Moved → Result (Unit {0}) HttpError → HttpSession T O S → Type 0
  EndsSession x moved (Ok u) y = FinishesSession x moved y × IsOutcome y.history (Ok u)
  EndsSession x moved (Err (Output e)) y = (m : HttpSession T O S) × AnswersGiven x m
      × (HandsOutput m moved (Err e) y ⊎ (ClosesSession m moved (Err e) y ⊎ TakesMoreInput m moved (Err (Output e)) y))
  EndsSession x moved (Err (Input e)) y = (m : HttpSession T O S) × AnswersGiven x m × TakesMoreInput m moved (Err (Input e)) y
  EndsSession x moved (Err Memory) y = (FinishesSession x moved y × IsOutcome y.history (Err Memory))
      ⊎ ((m : HttpSession T O S) × AnswersGiven x m × TakesMoreInput m moved (Err Memory) y)

  -- One more step, or the end.
  abbrev pub HttpTurns : HttpSession T O S → Moved → Result Bool HttpError → HttpSession T O S → Type 0
  HttpTurns x moved (Ok true) y = HttpStep x moved y
  HttpTurns x moved (Ok false) y = FinishesSession x moved y
  HttpTurns x moved (Err e) y = EndsSession x moved (Err e) y

  -- WholeSession steps, and then the end.
  abbrev pub Serves : HttpSession T O S → Result (Unit {0}) HttpError → HttpSession T O S → Type 0
  Serves x r y = (steps : List Moved) × (m : HttpSession T O S) × (last : Moved) × FoldsTo HttpStep x steps m × EndsSession m last r y
