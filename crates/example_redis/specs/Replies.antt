-- The bytes of replies.
use Rattle.std.specs.Prelude.{◌≡◌, ◌≢◌, ◌≤◌, ◌<◌, ℕ, suc, max, All, List, [], ◌∷◌, ◌++◌, codes, decimal, length, ⊤}
use Rattle.std.specs.Fmt.{signed_decimal}
use Rattle.example_redis.specs.declared.error.ReplyError.{ReplyError}
use Rattle.example_redis.specs.declared.error.ReplyError.TheVariants.{Io, LineBreak, Memory, Nested}
use Rattle.example_redis.specs.declared.reply.Replies.{Replies}
use Rattle.example_redis.specs.declared.reply.Reply.{Reply, Row_of-Reply, end_of-Reply, more_of-Reply}
use Rattle.example_redis.specs.declared.reply.Reply.TheVariants.{Simple, Error, Integer, Bulk, Null, Array'}

-- A line, with its kind before it.
abbrev pub line_bytes : List ℕ → List ℕ → List ℕ
line_bytes kind text = kind ++ text ++ 13 ∷ 10 ∷ []

-- How many replies are in a row.
abbrev pub count : {m : _} → Row_of-Reply m → ℕ
count end_of-Reply = 0
count (more_of-Reply reply rest) = suc (count rest)

abbrev mutual
  pub reply_bytes : Reply → List ℕ
  reply_bytes (Simple text) = line_bytes (codes "+") text.now
  reply_bytes (Error text) = line_bytes (codes "-") text.items
  reply_bytes (Integer n) = line_bytes (codes ":") (signed_decimal n)
  reply_bytes (Bulk bytes) = line_bytes (codes "$") (decimal (length bytes.items)) ++ line_bytes [] bytes.items
  reply_bytes Null = line_bytes (codes "$-1") []
  reply_bytes (Array' shape all) = line_bytes (codes "*") (decimal (count all)) ++ all_bytes all

  pub all_bytes : {m : _} → Row_of-Reply m → List ℕ
  all_bytes end_of-Reply = []
  all_bytes (more_of-Reply reply rest) = reply_bytes reply ++ all_bytes rest

-- How deep arrays are nested.
abbrev mutual
  pub reply_depth : Reply → ℕ
  reply_depth (Array' shape all) = suc (greatest_depth all)
  reply_depth _ = 0

  pub greatest_depth : {m : _} → Row_of-Reply m → ℕ
  greatest_depth end_of-Reply = 0
  greatest_depth (more_of-Reply reply rest) = max (reply_depth reply) (greatest_depth rest)

-- A text without carriage return and line feed.
abbrev pub IsOneLine : List ℕ → Type 0
IsOneLine text = All (λ b. (b ≢ 13) × (b ≢ 10)) text

-- The lines in a reply are lines.
abbrev mutual
  pub HasLines : Reply → Type 0
  HasLines (Simple text) = IsOneLine text.now
  HasLines (Error text) = IsOneLine text.items
  HasLines (Array' shape all) = HaveLines all
  HasLines _ = ⊤

  pub HaveLines : {m : _} → Row_of-Reply m → Type 0
  HaveLines end_of-Reply = ⊤
  HaveLines (more_of-Reply reply rest) = HasLines reply × HaveLines rest

-- What is encoded: replies whose lines are lines, with arrays nested so deep at most.
abbrev pub IsEncodable : ℕ → Reply → Type 0
IsEncodable depth reply = (reply_depth reply ≤ depth) × HasLines reply

-- Why a reply is refused.
abbrev pub IsRefused : ℕ → Reply → ReplyError → Type 0
IsRefused depth reply Nested = depth < reply_depth reply
IsRefused depth reply LineBreak = HasLines reply → ⊥
IsRefused depth reply Memory = ⊤
IsRefused depth reply (Io e) = ⊥

-- What the encoder writes for a reply.
abbrev pub encodes_replies : Replies → Reply → List ℕ → Replies → Type 0
encodes_replies s reply frame t = (t ≡ s) × IsEncodable s.depth reply × (frame ≡ reply_bytes reply)

-- Why it refuses one.
abbrev pub refuses_replies : Replies → Reply → ℕ → ReplyError → Type 0
refuses_replies s reply spare e = IsRefused s.depth reply e
