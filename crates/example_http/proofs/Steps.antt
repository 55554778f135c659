-- Steps of a session, and its end.
use Rattle.std.specs.Prelude.{◌≡◌, ◌≢◌, ℕ, ◌<◌, Bool, false, List, [], ◌∷◌, ◌++◌, length, Result, Err, refl, Ok}
use Rattle.std.specs.List.{FoldsTo}
use Rattle.std.proofs.Common.{arith, inl, inr, subst}
use Rattle.futures_lite.specs.Marks.{ReadMark, WriteMark}
use Rattle.futures_lite.specs.Own.{Runs}
use Rattle.http.specs.declared.request.Request.{Request}
use Rattle.http_server.specs.declared.response.Response.{Response}
use Rattle.http_server.specs.declared.state.Config.{Config}
use Rattle.http_server.specs.declared.state.State.{State}
use Rattle.http_server.specs.declared.state.State.TheVariants.{Open, Closing, Upgraded, Aborted}
use Rattle.http_server.specs.Exchange.{Calls}
use Rattle.http_server.specs.History.{History, IsDone, IsQuiet, IsServed, Rests}
use Rattle.example_http.specs.Moving.{Moved}
use Rattle.example_http.specs.Serving.{AnswersGiven, EndsSession, IsOutcome, IsWaiting, Serves, HttpSession, HttpStep, TakesMoreInput, HttpTurns}
use Rattle.example_http.specs.declared.http_error.HttpError.{HttpError}
use Rattle.example_http.specs.declared.http_error.HttpError.TheVariants.{Input, Memory, Output}

is_open : (s : State) → (s ≢ Open → ⊥) → s ≡ Open
is_open Open h = refl
is_open (Closing why) h = absurd (h (λ e. cc e))
is_open Upgraded h = absurd (h (λ e. cc e))
is_open Aborted h = absurd (h (λ e. cc e))

none_pending : (xs : List ℕ) → (0 < length xs → ⊥) → xs ≡ []
none_pending [] h = refl
none_pending (x ∷ xs) h = absurd (h (omega arith))

-- A connection that has nothing to write and is not done waits for input.
pub waiting : (h : History) → (0 < length h.pending → ⊥) → (IsDone h → ⊥) → IsWaiting h
waiting h none going =
    let empty = none_pending h.pending none in
    (is_open h.state (λ closed. going (closed, rw empty refl)), empty)

module _ {T O S : Type 0} (config : Config) (reads : Runs ReadMark T) (buffer_of : T → List ℕ) (writes : Runs WriteMark O)
    (answers : S → Request (List ℕ) → Response → S → Type 0) where
  pub answered : (x : HttpSession T O S) (s : S) (h : History) (other : Config) → other ≡ config
      → Calls answers x.service s x.history.calls h.calls → IsQuiet x.history h → ∥ IsServed other h ∥₁ → Rests other h
      → AnswersGiven config reads buffer_of writes answers x (record { reader = x.reader; writer = x.writer; service = s; history = h })
  answered x s h other is calls quiet served rests =
      record {
        calls = calls;
        quiet = quiet;
        served = subst (λ k. ∥ IsServed k h ∥₁) is served;
        rests = subst (λ k. Rests k h) is rests;
        reader = refl;
        writer = refl;
      }

  -- An error while more was to be received ends the session.
  pub stopped : (x m y : HttpSession T O S) (moved : Moved) (e : HttpError) → AnswersGiven config reads buffer_of writes answers x m
      → TakesMoreInput config reads buffer_of writes answers m moved (Err e) y → EndsSession config reads buffer_of writes answers x moved (Err e) y
  stopped x m y moved (Output e) a t = (m, a, inr (inr t))
  stopped x m y moved (Input e) a t = (m, a, t)
  stopped x m y moved Memory a t = inr (m, a, t)

  -- The connection is done.
  pub finished : (x y : HttpSession T O S) (moved : Moved) (r : Result (Unit {0}) HttpError)
      → HttpTurns config reads buffer_of writes answers x moved (Ok false) y → IsOutcome y.history r
      → EndsSession config reads buffer_of writes answers x moved r y
  finished x y moved (Ok u) t outcome = (t, outcome)
  finished x y moved (Err Memory) t outcome = inl (t, outcome)
  finished x y moved (Err (Input e)) t outcome = absurd outcome
  finished x y moved (Err (Output e)) t outcome = absurd outcome

  -- One more step.
  pub stepped : (x m y : HttpSession T O S) (moves : List Moved) (moved : Moved)
      → FoldsTo (HttpStep config reads buffer_of writes answers) x moves m → HttpStep config reads buffer_of writes answers m moved y
      → FoldsTo (HttpStep config reads buffer_of writes answers) x (moves ++ moved ∷ []) y
  stepped x m y [] moved h step = (y, rw h step, refl)
  stepped x m y (a ∷ moves) moved h step = (h.0, h.1, stepped h.0 m y moves moved h.2 step)

  -- What a turn does, by an equal configuration.
  pub turned : (other : Config) → other ≡ config → (x y : HttpSession T O S) (moved : Moved) (r r' : Result Bool HttpError)
      → r ≡ r' → HttpTurns other reads buffer_of writes answers x moved r y → HttpTurns config reads buffer_of writes answers x moved r' y
  turned other is x y moved r r' same h = rw (← is, ← same) h

  -- The last turn.
  pub served : (x m y : HttpSession T O S) (moves : List Moved) (moved : Moved) (r : Result (Unit {0}) HttpError)
      → FoldsTo (HttpStep config reads buffer_of writes answers) x moves m → EndsSession config reads buffer_of writes answers m moved r y
      → Serves config reads buffer_of writes answers x r y
  served x m y moves moved r folds ends = (moves, m, moved, folds, ends)
