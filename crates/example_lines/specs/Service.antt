-- What the server replies.
use Rattle.std.specs.Prelude.{◌≡◌, Bool, true, false, ℕ, List, [], ◌∷◌, ◌++◌, Option, Some, None, Result, Ok, Err, codes, decimal, map}
use Rattle.std.specs.Global.{Vec}
use Rattle.std.specs.declared.alloc.AllocError.{AllocError}
use Rattle.framed.specs.Services.{AnswerOf, LastWords}
use Rattle.framed.specs.declared.FrameError.{FrameError}
use Rattle.framed.specs.declared.FrameError.TheVariants.{CutOff, EndsInReturn, HasNewline, Io, TooLong}
use Rattle.framed.specs.declared.FrameError.TheVariants as error
use Rattle.framed.specs.declared.Answer.{Answer}
use Rattle.example_lines.specs.Request.{request_of}
use Rattle.example_lines.specs.Store.{KeyValues, stored, with_value, without_key}
use Rattle.example_lines.specs.declared.request.Request.{Request}
use Rattle.example_lines.specs.declared.request.Request.TheVariants.{Count, Delete, Get, Malformed, Quit, Set, Unknown, Web}
use Rattle.example_lines.specs.declared.store.Store.{Store}

-- The reply, whether the session goes on, and what is held then.
abbrev pub Replied : Type 0
Replied = List ℕ × Bool × KeyValues

-- The value, or that there is none.
abbrev pub value_line : Option (List ℕ) → List ℕ
value_line None = codes "no value"
value_line (Some value) = codes "value " ++ value

-- Whether there was a value to delete.
abbrev pub deletion : Option (List ℕ) → List ℕ
deletion None = codes "no value"
deletion (Some value) = codes "deleted"

-- What is done at a request.
abbrev pub reply_to : KeyValues → Request (List ℕ) → Replied
reply_to h (Set key value) = (codes "stored", true, with_value h key value)
reply_to h (Get key) = (value_line (h.at key), true, h)
reply_to h (Delete key) = (deletion (h.at key), true, without_key h key)
reply_to h Count = (codes "count " ++ decimal h.count, true, h)
reply_to h Quit = (codes "bye", false, h)
reply_to h Web = (codes "error: this is no web server", false, h)
reply_to h Malformed = (codes "error: SET takes a key and a value", true, h)
reply_to h Unknown = (codes "error: unknown request", true, h)

-- The one reply to a line, whether the session goes on, and what is held then.
abbrev pub line_step : KeyValues → List ℕ → AnswerOf (List ℕ) × KeyValues
line_step h line = let done = reply_to h (request_of line) in ((done.0 ∷ [], done.1), done.2)

-- The answer is what is done, or memory was refused and the same is held.
abbrev pub HasReplied : KeyValues → Replied → Result (Answer (Vec ℕ)) AllocError → KeyValues → Type 0
HasReplied h done (Ok a) g = (map (λ r. r.items) a.replies.items ≡ done.0 ∷ []) × (a.goes_on ≡ done.1) × (g ≡ done.2)
HasReplied h done (Err e) g = g ≡ h

-- The last words. There are none if the reader failed or memory was refused.
abbrev pub last_lines : FrameError → List (List ℕ)
last_lines (TooLong n) = codes "error: the line is too long" ∷ []
last_lines CutOff = codes "error: the last line has no newline" ∷ []
last_lines error.Malformed = []
last_lines (HasNewline at) = []
last_lines EndsInReturn = []
last_lines (Io e) = []

-- They leave what is held.
abbrev pub SaysLast : LastWords Store FrameError (Vec ℕ)
SaysLast x e None y = stored y ≡ stored x
SaysLast x e (Some replies) y = (map (λ r. r.items) replies ≡ last_lines e) × (stored y ≡ stored x)
