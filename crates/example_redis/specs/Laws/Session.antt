-- The requests that are read are whole messages, and the bytes behind them are refused.
use Rattle.std.specs.Prelude.{◌≡◌, ℕ, List, [], IfErr, IfOk, Result, Some, Ok, Err, refl}
use Rattle.futures_lite.specs.Marks.{ReadMark, WriteMark}
use Rattle.futures_lite.specs.Own.{MarkLaws, Runs}
use Rattle.framed.specs.DialogueLaws.{conversed}
use Rattle.framed.specs.Dialogues.{FrameByFrame}
use Rattle.framed.specs.Refusals.{refused_at}
use Rattle.framed.specs.Serving.{Session}
use Rattle.framed.specs.declared.serve_error.ServeError.{ServeError}
use Rattle.framed.specs.declared.serve_error.ServeError.TheVariants.{Encode, Input, Memory, Output}
use Rattle.example_redis.specs.Bytes.{message_bytes}
use Rattle.example_redis.specs.Commands.{said, texts}
use Rattle.example_redis.specs.Laws.Requests.{requests_partial}
use Rattle.example_redis.specs.Replies.{encodes_replies, refuses_replies}
use Rattle.example_redis.specs.Requests.{IsIdle, gives_requests, open_bytes}
use Rattle.example_redis.specs.Service.{LastSaid, step}
use Rattle.example_redis.specs.Session.{Conversed, IsFresh, SessionEnds, SessionStops, request_frame}
use Rattle.example_redis.specs.Store.{held}
use Rattle.example_redis.specs.declared.error.ReplyError.{ReplyError}
use Rattle.example_redis.specs.declared.error.RequestError.{RequestError}
use Rattle.example_redis.specs.declared.error.RequestError.TheVariants.{Io}
use Rattle.example_redis.specs.declared.limits.Limits.{Limits}
use Rattle.example_redis.specs.declared.reply.Replies.{Replies}
use Rattle.example_redis.specs.declared.requests.Requests.{Requests}
use Rattle.example_redis.specs.declared.store.Store.{Store}

nothing_open : (limits : Limits) (s : Requests) → IsIdle limits s → open_bytes s ≡ []
nothing_open limits s idle = rw (idle.1, idle.2) refl

pub frame_by_frame : (limits : Limits) → FrameByFrame (request_frame limits) gives_requests (IsIdle limits)
frame_by_frame limits =
    record {
      next = λ c xs v t ys idle (done, m, within, fits, words, bytes).
          (rw idle.0 at done, (message_bytes m, (m, rw idle.0 at within, words, refl), rw (nothing_open limits c idle) at bytes));
      last = λ c xs v t ys idle h. absurd h;
      end = λ c xs t ys idle h. rw (nothing_open limits c idle) at h.1;
    }

module _ {T O : Type 0} {reads : Runs ReadMark T} (buffer_of : T → List ℕ) {writes : Runs WriteMark O}
    (read_laws : MarkLaws reads) (write_laws : MarkLaws writes) where
  -- What serving a new stream to its end did.
  pub session_of : (x y : Session T Requests O Replies Store) (r : Result (Unit {0}) (ServeError RequestError ReplyError))
      → IsFresh x.requests → SessionEnds reads buffer_of writes x r y → IfOk r (λ u. Conversed reads writes x y)
  session_of x y (Err e) fresh ends = tt
  session_of x y (Ok u) (phase, none, idle) ends =
      conversed gives_requests (λ given error. error ≡ Io given) reads buffer_of writes encodes_replies refuses_replies
      (λ request. texts request.words.items) (λ reply. said (Some reply)) held step LastSaid
      (IsIdle x.requests.decoder.limits) (request_frame x.requests.decoder.limits)
      (frame_by_frame x.requests.decoder.limits) requests_partial read_laws write_laws x y u idle phase none ends

  -- What a session did that stopped with an error.
  pub session_stopped : (x y : Session T Requests O Replies Store) (r : Result (Unit {0}) (ServeError RequestError ReplyError))
      → IsFresh x.requests → SessionEnds reads buffer_of writes x r y → IfErr r (λ e. SessionStops reads writes x e y)
  session_stopped x y (Ok u) fresh ends = tt
  session_stopped x y (Err (Input e)) (phase, none, idle) ends =
      refused_at gives_requests (λ given error. error ≡ Io given) reads buffer_of writes encodes_replies refuses_replies
      (λ request. texts request.words.items) (λ reply. said (Some reply)) held step LastSaid
      (IsIdle x.requests.decoder.limits) (request_frame x.requests.decoder.limits)
      (frame_by_frame x.requests.decoder.limits) requests_partial read_laws write_laws x y e idle phase none ends
  session_stopped x y (Err (Output e)) fresh ends = tt
  session_stopped x y (Err (Encode e)) fresh ends = tt
  session_stopped x y (Err Memory) fresh ends = tt
