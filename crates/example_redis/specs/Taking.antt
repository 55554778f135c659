-- What the parts of the decoder of requests do.
use Rattle.std.specs.Prelude.{◌≡◌, ◌≤◌, ◌<◌, ◌+◌, ◌^◌, ℕ, Bool, true, false, List, [], ◌∷◌, ◌++◌, Option, Some, None, Result, Ok, Err, length}
use Rattle.tokio_util.specs.Codec.Next.{decoded}
use Rattle.example_redis.specs.Bytes.{number_line, request_front}
use Rattle.example_redis.specs.Requests.{IsBegun, IsKept, RefusesRequest, Says, taken, words_length}
use Rattle.example_redis.specs.declared.error.RequestError.{RequestError}
use Rattle.example_redis.specs.declared.front.Front.{Front}
use Rattle.example_redis.specs.declared.limits.Limits.{Limits}
use Rattle.example_redis.specs.declared.requests.Request.{Request}
use Rattle.example_redis.specs.declared.requests.Requests.{Requests}

-- The first line of a request is at the front, or more bytes make one, or the bytes are refused.
abbrev pub ReadsRequestFront : Limits → List ℕ → Result (Option Front) RequestError → Type 0
ReadsRequestFront limits xs (Ok (Some front)) =
    (front.words ≤ limits.words) × (front.words < 2 ^ 32) × (front.size ≡ length (number_line front.words) + 1)
    × (rest : List ℕ) × (xs ≡ 42 ∷ (number_line front.words ++ rest))
ReadsRequestFront limits xs (Ok None) = IsBegun limits limits.request xs
ReadsRequestFront limits xs (Err e) = RefusesRequest limits limits.request xs e

-- The bytes that were taken of a request that may have all of its words, and how many bytes its words may have.
abbrev pub whole_front : Requests → List ℕ
whole_front s = request_front (length (taken s) + s.missing) (taken s)

-- How many bytes the whole request may have.
abbrev pub whole_room : Requests → ℕ
whole_room s = words_length (taken s) + s.room

-- The decoder and what it leaves stand for the same request.
abbrev pub TakenOn : Requests → List ℕ → Requests → List ℕ → Type 0
TakenOn s xs t ys = (t.limits ≡ s.limits) × (whole_room t ≡ whole_room s) × (whole_front t ++ ys ≡ whole_front s ++ xs)
    × (t.line.items ≡ s.line.items)

-- A word was taken, or it is not whole, or the bytes are refused.
abbrev pub TakesWord : Requests → List ℕ → Result Bool RequestError → Requests → List ℕ → Type 0
TakesWord s xs (Ok true) t ys = TakenOn s xs t ys × (t.missing + 1 ≡ s.missing)
TakesWord s xs (Ok false) t ys = TakenOn s xs t ys × (t.missing ≡ s.missing) × IsBegun s.limits (whole_room s) (whole_front s ++ xs)
TakesWord s xs (Err e) t ys = TakenOn s xs t ys × (t.missing ≡ s.missing) × RefusesRequest s.limits (whole_room s) (whole_front s ++ xs) e

-- What is taken of these bytes, which the decoder and its input stand for.
abbrev pub TakesRequest : Limits → ℕ → List ℕ → Result (Option Request) RequestError → Requests → List ℕ → Type 0
TakesRequest limits room bs (Ok (Some v)) t ys = Says limits room bs (decoded (Ok v) t ys)
TakesRequest limits room bs (Ok None) t ys = IsKept limits room bs t ys × IsBegun limits room bs
TakesRequest limits room bs (Err e) t ys = Says limits room bs (decoded (Err e) t ys)

-- The bytes of a line were taken, up to its line feed or to the end of the input. Or the line is too long.
abbrev pub KeepsLine : Requests → List ℕ → Requests → List ℕ → Type 0
KeepsLine s xs t ys = (t.limits ≡ s.limits) × (t.missing ≡ s.missing) × (t.line.items ++ ys ≡ s.line.items ++ xs)

-- A word was taken as it is.
abbrev pub TakesText : Requests → List ℕ → Result Bool RequestError → Requests → List ℕ → Type 0
TakesText s xs (Ok true) t ys = KeepsLine s xs t ys × (rest : List ℕ) × (ys ≡ 10 ∷ rest)
TakesText s xs (Ok false) t ys = KeepsLine s xs t ys × (ys ≡ [])
TakesText s xs (Err e) t ys = KeepsLine s xs t ys × RefusesRequest s.limits s.limits.request (s.line.items ++ xs) e
