-- A whole session of the server.
use Rattle.std.specs.Prelude.{◌≡◌, ℕ, List, [], Result, Some, ⊤}
use Rattle.futures_lite.specs.Marks.{ReadMark, WriteMark}
use Rattle.futures_lite.specs.Own.{Runs}
use Rattle.framed.specs.Dialogues.{Dialogue}
use Rattle.framed.specs.Frames.{Framed, reading}
use Rattle.framed.specs.Refusals.{Refusal}
use Rattle.framed.specs.Services.{ServesAs}
use Rattle.framed.specs.Serving.{ServeEnds, Session}
use Rattle.framed.specs.declared.serve_error.ServeError.{ServeError}
use Rattle.framed.specs.declared.serve_error.ServeError.TheVariants.{Encode, Input, Memory, Output}
use Rattle.example_redis.specs.Bytes.{Message, message_bytes, message_words}
use Rattle.example_redis.specs.Commands.{said, texts}
use Rattle.example_redis.specs.Replies.{encodes_replies, refuses_replies}
use Rattle.example_redis.specs.Requests.{IsIdle, IsMessage, gives_requests, words_of}
use Rattle.example_redis.specs.Service.{LastSaid, step}
use Rattle.example_redis.specs.Store.{held}
use Rattle.example_redis.specs.declared.error.ReplyError.{ReplyError}
use Rattle.example_redis.specs.declared.error.RequestError.{RequestError}
use Rattle.example_redis.specs.declared.error.RequestError.TheVariants.{Io}
use Rattle.example_redis.specs.declared.limits.Limits.{Limits}
use Rattle.example_redis.specs.declared.reply.Replies.{Replies}
use Rattle.example_redis.specs.declared.requests.Request.{Request}
use Rattle.example_redis.specs.declared.requests.Requests.{Requests}
use Rattle.example_redis.specs.declared.store.Store.{Store}

-- The bytes of a request are those of a message with its words.
abbrev pub request_frame : Limits → Request → List ℕ → Type 0
request_frame limits request frame =
    (m : Message) × IsMessage limits m × (words_of request ≡ message_words m) × (frame ≡ message_bytes m)

-- Nothing of the reader was taken yet.
abbrev pub IsFresh : {T : Type 0} → Framed T Requests → Type 0
IsFresh x = (x.phase ≡ reading) × (x.held ≡ []) × IsIdle x.decoder.limits x.decoder

-- How serving ends, whatever it stops at.
abbrev pub SessionEnds : {T O : Type 0} → Runs ReadMark T → (T → List ℕ) → Runs WriteMark O → Session T Requests O Replies Store
    → Result (Unit {0}) (ServeError RequestError ReplyError) → Session T Requests O Replies Store → Type 0
SessionEnds reads buffer_of writes x r y =
    ServeEnds gives_requests (λ given error. error ≡ Io given) reads buffer_of writes encodes_replies refuses_replies
    (ServesAs (λ request. texts request.words.items) (λ reply. said (Some reply)) held step) LastSaid x r y

-- The requests that were read were answered in turn, from what the store held. Exactly the replies were written.
abbrev pub Conversed : {T O : Type 0} → Runs ReadMark T → Runs WriteMark O → Session T Requests O Replies Store
    → Session T Requests O Replies Store → Type 0
Conversed reads writes x y =
    Dialogue reads writes (request_frame x.requests.decoder.limits) encodes_replies
    (λ request. texts request.words.items) (λ reply. said (Some reply)) held step x y

-- Requests were read and answered in turn, from what the store held. No request came of the bytes behind them, for this error. The
-- replies were written, and then the last words to the error.
abbrev pub ConversedUpTo : {T O : Type 0} → Runs ReadMark T → Runs WriteMark O → Session T Requests O Replies Store → RequestError
    → Session T Requests O Replies Store → Type 0
ConversedUpTo reads writes x e y =
    Refusal gives_requests (λ given error. error ≡ Io given) (IsIdle x.requests.decoder.limits) reads writes
    (request_frame x.requests.decoder.limits) encodes_replies
    (λ request. texts request.words.items) (λ reply. said (Some reply)) held step LastSaid x y e

-- What a session did that stopped with this error. Of errors other than `Input`, `SessionEnds` says it.
abbrev pub SessionStops : {T O : Type 0} → Runs ReadMark T → Runs WriteMark O → Session T Requests O Replies Store
    → ServeError RequestError ReplyError → Session T Requests O Replies Store → Type 0
SessionStops reads writes x (Input e) y = ConversedUpTo reads writes x e y
SessionStops reads writes x (Output e) y = ⊤
SessionStops reads writes x (Encode e) y = ⊤
SessionStops reads writes x Memory y = ⊤
