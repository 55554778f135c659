-- What the server replies.
use Rattle.std.specs.Prelude.{◌≡◌, ◌<◌, List, [], ◌∷◌, Some, None, ℕ, codes, length, map}
use Rattle.framed.specs.Services.{AnswerOf, LastWords}
use Rattle.example_redis.specs.Commands.{Said, perform, said}
use Rattle.example_redis.specs.Store.{HeldValues, held}
use Rattle.example_redis.specs.declared.error.RequestError.{RequestError}
use Rattle.example_redis.specs.declared.error.RequestError.TheVariants.{Cut, Io, LongLine, LongRequest, LongWord, Malformed, Memory, TooManyWords}
use Rattle.example_redis.specs.declared.reply.Reply.{Reply}
use Rattle.example_redis.specs.declared.store.Store.{Store}

-- A request without words has no reply.
abbrev pub replies_of : Said → List Said
replies_of Said.silent = []
replies_of (Said.simple text) = Said.simple text ∷ []
replies_of (Said.wrong text) = Said.wrong text ∷ []
replies_of (Said.number n) = Said.number n ∷ []
replies_of (Said.bulk bytes) = Said.bulk bytes ∷ []
replies_of Said.null = Said.null ∷ []
replies_of (Said.array n) = Said.array n ∷ []

-- What is replied to the words of a request, whether the session goes on, and what is held then.
abbrev pub step : HeldValues → List (List ℕ) → AnswerOf Said × HeldValues
step h words = let done = perform h words in ((replies_of done.0, done.1), done.2)

-- The last words to a request that is refused. There are none if the reader failed or memory was refused.
abbrev pub last_said : RequestError → List Said
last_said Malformed = Said.wrong (codes "ERR Protocol error: malformed request") ∷ []
last_said TooManyWords = Said.wrong (codes "ERR Protocol error: too many words") ∷ []
last_said LongWord = Said.wrong (codes "ERR Protocol error: a word is too long") ∷ []
last_said LongRequest = Said.wrong (codes "ERR Protocol error: the request is too long") ∷ []
last_said LongLine = Said.wrong (codes "ERR Protocol error: the line is too long") ∷ []
last_said Cut = []
last_said (Io e) = []
last_said Memory = []

-- A text is what is said; no text, that nothing is said.
abbrev pub Complains : List Said → List ℕ → Type 0
Complains [] text = text ≡ []
Complains (one ∷ more) text = (0 < length text) × (one ∷ more ≡ Said.wrong text ∷ [])

-- They leave what is held.
abbrev pub LastSaid : LastWords Store RequestError Reply
LastSaid x e None y = held y ≡ held x
LastSaid x e (Some replies) y = (map (λ r. said (Some r)) replies ≡ last_said e) × (held y ≡ held x)
