-- What a decoder of requests gives.
use Rattle.std.specs.Prelude.{◌≡◌, ◌≤◌, ◌<◌, ◌+◌, ◌^◌, ℕ, zero, suc, List, [], ◌∷◌, ◌++◌, Some, None, Ok, Err, decimal, length, map, ⊤}
use Rattle.std.specs.List.{AllByRecursion, flat_map}
use Rattle.tokio_util.specs.Codec.Next.{Gives, Next, at_end, decoded, partial}
use Rattle.example_redis.specs.Bytes.{IsLine, IsSized, HasWrittenForm, Message, message_bytes, message_words, number_line, request_front, word_bytes}
use Rattle.example_redis.specs.declared.error.RequestError.{RequestError}
use Rattle.example_redis.specs.declared.error.RequestError.TheVariants.{Cut, Io, LongLine, LongRequest, LongWord, Malformed, Memory, TooManyWords}
use Rattle.example_redis.specs.declared.limits.Limits.{Limits}
use Rattle.example_redis.specs.declared.requests.Request.{Request}
use Rattle.example_redis.specs.declared.requests.Requests.{Requests}

-- The words of a request, and the words that a decoder took of the open one.
abbrev pub words_of : Request → List (List ℕ)
words_of v = map (λ w. w.items) v.words.items

-- The words that were taken of the open request.
abbrev pub taken : Requests → List (List ℕ)
taken s = map (λ w. w.items) s.words.items

-- How many bytes words have, with their headers.
abbrev pub words_length : List (List ℕ) → ℕ
words_length words = length (flat_map word_bytes words)

-- The bytes of an open request that were taken: of a line, or of an array with missing words.
abbrev pub open_front : ℕ → List (List ℕ) → List ℕ → List ℕ
open_front zero words text = text
open_front (suc n) words text = request_front (length words + suc n) words

-- The bytes that were taken of the open request.
abbrev pub open_bytes : Requests → List ℕ
open_bytes s = open_front s.missing (taken s) s.line.items

-- How many bytes the words of a request may have: the limit, or those that were taken and the room that is left.
abbrev pub room_for_words : ℕ → ℕ → List (List ℕ) → ℕ → ℕ
room_for_words limit zero words room = limit
room_for_words limit (suc n) words room = words_length words + room

-- How many bytes a request may have.
abbrev pub allowed : Requests → ℕ
allowed s = room_for_words s.limits.request s.missing (taken s) s.room

-- A request within the limits for its words, or for its line.
abbrev pub IsRequestOf : Limits → List (List ℕ) → Type 0
IsRequestOf limits words = (length words ≤ limits.words) × AllByRecursion (λ w. length w ≤ limits.word) words × IsSized words

-- The message is within the limits.
abbrev pub IsMessage : Limits → Message → Type 0
IsMessage limits (Message.array words) = IsRequestOf limits words
IsMessage limits (Message.line text) = IsLine text × (length text ≤ limits.line)

-- The words of an array have at most so many bytes.
abbrev pub FitsRoom : ℕ → Message → Type 0
FitsRoom room (Message.array words) = words_length words ≤ room
FitsRoom room (Message.line text) = ⊤

-- The bytes of a request that is not whole are few: those of a line within the limit, or of words within their room, with
-- the first line of the request, and of the next word.
abbrev pub IsBounded : Limits → ℕ → Message → List ℕ → Type 0
IsBounded limits room (Message.array words) bs = length bs ≤ room + 25
IsBounded limits room (Message.line text) bs = length bs ≤ limits.line

-- More bytes make a request of these.
abbrev pub IsBegun : Limits → ℕ → List ℕ → Type 0
IsBegun limits room bs =
    (m : Message) × (more : List ℕ) × IsMessage limits m × (0 < length more) × (bs ++ more ≡ message_bytes m) × IsBounded limits room m bs

-- Whatever bytes follow, no request is at the beginning.
abbrev pub IsHopeless : List ℕ → Type 0
IsHopeless bs = (m : Message) (more rest : List ℕ) → HasWrittenForm m → bs ++ more ≡ message_bytes m ++ rest → ⊥

-- Why bytes are no request: none begins with them, or a number, a line or the bytes of the words are above the limit.
abbrev pub RefusesRequest : Limits → ℕ → List ℕ → RequestError → Type 0
RefusesRequest limits room bs Malformed = IsHopeless bs
RefusesRequest limits room bs TooManyWords = (n : ℕ) × (rest : List ℕ) × (limits.words < n) × (n < 2 ^ 64) × (bs ≡ 42 ∷ (decimal n ++ rest))
RefusesRequest limits room bs LongWord =
    (total n : ℕ) × (words : List (List ℕ)) × (rest : List ℕ) × (length words < total) × (limits.word < n) × (n < 2 ^ 64)
    × (bs ≡ request_front total words ++ 36 ∷ (decimal n ++ rest))
RefusesRequest limits room bs LongRequest =
    (total n : ℕ) × (words : List (List ℕ)) × (rest : List ℕ) × (length words < total) × (n < 2 ^ 64)
    × (room < words_length words + (length (number_line n) + n + 3)) × (bs ≡ request_front total words ++ 36 ∷ (number_line n ++ rest))
RefusesRequest limits room bs LongLine = (text rest : List ℕ) × IsLine text × (limits.line < length text) × (bs ≡ text ++ rest)
RefusesRequest limits room bs Memory = ⊤
RefusesRequest limits room bs Cut = ⊥
RefusesRequest limits room bs (Io e) = ⊥

-- No request is open.
abbrev pub IsIdle : Limits → Requests → Type 0
IsIdle limits t = (t.limits ≡ limits) × (t.missing ≡ 0) × (t.line.items ≡ [])

-- The decoder and what it leaves stand for the same bytes as before.
abbrev pub IsKept : Limits → ℕ → List ℕ → Requests → List ℕ → Type 0
IsKept limits room bs t ys = (t.limits ≡ limits) × (allowed t ≡ room) × (open_bytes t ++ ys ≡ bs)

-- What comes next out of the bytes of an open request and those behind it.
abbrev pub Says : Limits → ℕ → List ℕ → Next Requests Request RequestError → Type 0
Says limits room bs (decoded (Ok v) t ys) =
    IsIdle limits t × (m : Message) × IsMessage limits m × FitsRoom room m × (words_of v ≡ message_words m) × (bs ≡ message_bytes m ++ ys)
Says limits room bs (decoded (Err e) t ys) = IsKept limits room bs t ys × RefusesRequest limits room bs e
Says limits room bs partial = IsBegun limits room bs
Says limits room bs (at_end (Ok (Some v)) t ys) = ⊥
Says limits room bs (at_end (Ok None) t ys) = IsIdle limits t × (bs ≡ []) × (ys ≡ [])
Says limits room bs (at_end (Err e) t ys) = (e ≡ Cut) × (0 < length bs) × IsBegun limits room bs × IsKept limits room bs t ys

-- What the decoder gives.
abbrev pub gives_requests : Gives Requests Request RequestError
gives_requests s xs next = Says s.limits (allowed s) (open_bytes s ++ xs) next
